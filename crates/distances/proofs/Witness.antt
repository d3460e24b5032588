-- Runs that come to no state twice, and what they weigh.
use Rattle.std.proofs.Common.{◌≡◌, ℕ, ◌+◌, ◌<◌, ◌≤◌, Bool, true, false, eqb, List, [], ◌∷◌, Option, None, Some}
use Rattle.std.proofs.Common.{length, get_or, sym, subst, arith, inl, inr}
use Rattle.std.proofs.{lemmas.Bool.{false≢true, eqb-true, or_cases, or_parts}, lemmas.Map.Keys.IsDistinct-cons}
use Rattle.std.proofs.lemmas.Map.Steps.{length-le_from_distinct_below}
use Rattle.std.specs.List.{list_any, IsDistinct, AllByRecursion}
use Rattle.weight_law.specs.{declared.Weight.Ghosts, Meaning.{AtMost, IsLawful}}
use Rattle.weight_law.proofs.Order.{at_most-trans, at_most-added}
use Rattle.arc_table.specs.{declared.arc.TableArc.TableArc, declared.state.TableState.TableState}
use Rattle.arc_table.specs.{Conditions.TargetsExist, Runs.{IsRun, weight_of}}
use Rattle.distances.specs.Rounds.{IsKnownWithin, places, IsWitness}

-- a test that no element passes fails at each
AllByRecursion-from_list_any : {X : Type 0} (p : X → Bool) (xs : List X) → list_any p xs ≡ false
    → AllByRecursion (λ x. p x ≡ false) xs
AllByRecursion-from_list_any p [] e = tt
AllByRecursion-from_list_any p (x ∷ xs) e =
    let parts : (p x ≡ false) × (list_any p xs ≡ false) = or_parts (p x) (list_any p xs) e in
    (parts.0, AllByRecursion-from_list_any p xs parts.1)

-- the empty list is distinct
distinct_nil : {X : Type 0} (e : X → X → Bool) → IsDistinct e []
unfolding IsDistinct
distinct_nil e = tt

module _ {W : Type 0} {g : Ghosts W} (laws : IsLawful g.meaning) where
  pub lawful-weight_of : (arcs : List (TableArc W g)) → g.meaning.lawful (weight_of arcs) ≡ true
  lawful-weight_of [] = laws.lawful_zero
  lawful-weight_of (arc ∷ arcs) = laws.lawful_sum arc.weight (weight_of arcs) arc.lawful (lawful-weight_of arcs)

  pub IsKnownWithin-more : (o : Option W) (a b : W) → g.meaning.lawful a ≡ true → g.meaning.lawful b ≡ true
      → IsKnownWithin g.meaning o a → AtMost g.meaning a b → IsKnownWithin g.meaning o b
  IsKnownWithin-more None a b pa pb h ab = h
  IsKnownWithin-more (Some u) a b pa pb h ab = (h.0, at_most-trans laws u a b h.0 pa pb h.1 ab)

  pub at_most-weight_of : (arc : TableArc W g) (arcs : List (TableArc W g))
      → AtMost g.meaning (weight_of arcs) (weight_of (arc ∷ arcs))
  at_most-weight_of arc arcs = at_most-added laws (weight_of arcs) arc.weight (lawful-weight_of arcs) arc.lawful

  -- what is known of a state that a witness comes to is at most its weight
  pub passes : (states : List (TableState W g)) (least : List (Option W)) (s : ℕ) (arcs : List (TableArc W g))
      → IsWitness states least s arcs → (q : ℕ) → list_any (eqb q) (places s arcs) ≡ true
      → IsKnownWithin g.meaning (get_or least q None) (weight_of arcs)
  passes states least s [] h q e =
      let same : q ≡ s = elim (or_cases (eqb q s) false e) [ inl a ↦ eqb-true q s a | inr b ↦ absurd (false≢true b) ] in
      let P : ℕ → Type 0 = λ x. IsKnownWithin g.meaning (get_or least x None) g.meaning.zero in
      subst P (sym same) h.1
  passes states least s (arc ∷ arcs) h q e =
      let P : ℕ → Type 0 = λ x. IsKnownWithin g.meaning (get_or least x None) (weight_of (arc ∷ arcs)) in
      elim (or_cases (eqb q s) (list_any (eqb q) (places arc.target arcs)) e) [
        | inl a ↦ subst P (sym (eqb-true q s a)) h.1
        | inr b ↦ IsKnownWithin-more (get_or least q None) (weight_of arcs) (weight_of (arc ∷ arcs))
            (lawful-weight_of arcs) (lawful-weight_of (arc ∷ arcs)) (passes states least arc.target arcs h.3 q b)
            (at_most-weight_of arc arcs)
      ]

  -- a witness is a run
  pub run_of : (states : List (TableState W g)) (least : List (Option W)) (s : ℕ) (arcs : List (TableArc W g))
      → IsWitness states least s arcs → IsRun states s arcs
  run_of states least s [] h = h.0
  run_of states least s (arc ∷ arcs) h = (h.0, run_of states least arc.target arcs h.3)

  distinct_places : (states : List (TableState W g)) (least : List (Option W)) (s : ℕ) (arcs : List (TableArc W g))
      → IsWitness states least s arcs → IsDistinct eqb (places s arcs)
  distinct_places states least s [] h = IsDistinct-cons eqb s [] tt (distinct_nil eqb)
  distinct_places states least s (arc ∷ arcs) h =
      IsDistinct-cons eqb s (places arc.target arcs)
      (AllByRecursion-from_list_any (eqb s) (places arc.target arcs) h.2)
      (distinct_places states least arc.target arcs h.3)

  places_below : (states : List (TableState W g)) → TargetsExist states → (s : ℕ) (arcs : List (TableArc W g))
      → s < length states → IsRun states s arcs → (q : ℕ) → list_any (eqb q) (places s arcs) ≡ true
      → q < length states
  places_below states exist s [] within run q e =
      let same : q ≡ s = elim (or_cases (eqb q s) false e) [ inl a ↦ eqb-true q s a | inr b ↦ absurd (false≢true b) ] in
      omega arith
  places_below states exist s (arc ∷ arcs) within run q e =
      elim (or_cases (eqb q s) (list_any (eqb q) (places arc.target arcs)) e) [
        | inl a ↦ (let same : q ≡ s = eqb-true q s a in omega arith)
        | inr b ↦ places_below states exist arc.target arcs (exist s arc run.0) run.1 q b
      ]

  length-places : (s : ℕ) (arcs : List (TableArc W g)) → length (places s arcs) ≡ length arcs + 1
  length-places s [] = omega arith
  length-places s (arc ∷ arcs) = omega (arith, length-places arc.target arcs)

  -- a run that comes to no state twice has fewer moves than there are states
  pub short : (states : List (TableState W g)) (least : List (Option W)) → TargetsExist states
      → (s : ℕ) (arcs : List (TableArc W g)) → s < length states → IsWitness states least s arcs
      → length arcs + 1 ≤ length states
  short states least exist s arcs within h =
      let bound : length (places s arcs) ≤ length states =
      length-le_from_distinct_below (places s arcs) (length states) (distinct_places states least s arcs h)
      (places_below states exist s arcs within (run_of states least s arcs h)) in
      omega (arith, length-places s arcs, bound)
