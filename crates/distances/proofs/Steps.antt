-- What is kept where the best of one state is written.
use Rattle.std.proofs.Common.{◌≡◌, ℕ, ◌+◌, ◌<◌, ◌≤◌, Bool, true, false, eqb, List, [], ◌∷◌, Option, None, Some}
use Rattle.std.proofs.Common.{length, get_or, set, refl, sym, ap, ◌∙◌, subst, arith, inl, inr}
use Rattle.std.proofs.lemmas.Bool.{false≢true, cases_eq}
use Rattle.std.proofs.lemmas.List.{get_or-set_same, get_or-set_other, set-get_or}
use Rattle.std.specs.{Prelude.Contains, List.list_any}
use Rattle.weight_law.specs.{declared.Weight.Ghosts, Meaning.{AtMost, IsLawful}}
use Rattle.weight_law.proofs.Order.{at_most-trans, at_most-itself, at_most-sum_left}
use Rattle.arc_table.specs.{declared.arc.TableArc.TableArc, declared.state.TableState.TableState, Moves.moves_at}
use Rattle.arc_table.specs.{Conditions.TargetsExist, Runs.{IsRun, weight_of}}
use Rattle.distances.specs.{Best.best_of, Rounds.{IsKnownWithin, places, IsWitness, AreWitnessed, IsCoveredFrom}}
use Rattle.distances.specs.Rounds.{IsCovered, AreClosedFrom}
use Rattle.distances.proofs.Witness.{lawful-weight_of, IsKnownWithin-more, passes, at_most-weight_of}
use Rattle.distances.proofs.Looks.{IsLawfulIfSome, Improves, Gains, best-known, best-move, best-cases}

module _ {W : Type 0} {g : Ghosts W} (laws : IsLawful g.meaning) (states : List (TableState W g)) where
  -- what is known is lawful
  pub lawful_known : (least : List (Option W)) → AreWitnessed states least → (q : ℕ)
      → IsLawfulIfSome g.meaning (get_or least q None)
  lawful_known least wit q = go (get_or least q None) refl
    where
      go : (o : Option W) → get_or least q None ≡ o → IsLawfulIfSome g.meaning o
      go None e = tt
      go (Some u) e =
          let found = wit q u e in
          let P : W → Type 0 = λ x. g.meaning.lawful x ≡ true in
          subst P found.2 (lawful-weight_of laws found.0)

  -- what is known only falls
  abbrev pub Falls : List (Option W) → List (Option W) → Type 0
  Falls least next = (q : ℕ) (w : W) → g.meaning.lawful w ≡ true → IsKnownWithin g.meaning (get_or least q None) w
      → IsKnownWithin g.meaning (get_or next q None) w

  pub witness-falls : (least next : List (Option W)) → Falls least next → (s : ℕ) (arcs : List (TableArc W g))
      → IsWitness states least s arcs → IsWitness states next s arcs
  witness-falls least next falls s [] h = (h.0, falls s g.meaning.zero laws.lawful_zero h.1)
  witness-falls least next falls s (arc ∷ arcs) h = (
    h.0,
    falls s (weight_of (arc ∷ arcs)) (lawful-weight_of laws (arc ∷ arcs)) h.1,
    h.2,
    witness-falls least next falls arc.target arcs h.3,
  )

  not_both : (o : Option W) (a c : W) → g.meaning.lawful a ≡ true → g.meaning.lawful c ≡ true
      → IsKnownWithin g.meaning o a
      → AtMost g.meaning a c → Improves g.meaning c o → ⊥
  not_both None a c pa pc h ac better = h
  not_both (Some u) a c pa pc h ac better = false≢true (sym (at_most-trans laws u a c h.0 pa pc h.1 ac) ∙ better)

  -- a look at some moves of s
  module _ (least : List (Option W)) (wit : AreWitnessed states least) (s : ℕ) (within : s < length least)
      (moves : List (TableArc W g)) (some : (arc : TableArc W g) → Contains moves arc
      → Contains (moves_at states s) arc) where
    -- what is known after it
    abbrev pub found_at : Option W
    found_at = best_of least (get_or least s None) moves

    abbrev pub next_of : List (Option W)
    next_of = set least s found_at

    at_s : get_or next_of s None ≡ found_at
    at_s = get_or-set_same least s found_at None within

    pub step-falls : Falls least next_of
    step-falls q w pw h = elim (cases_eq q s) [
      | inl same ↦
          (let P : Option W → Type 0 = λ o. IsKnownWithin g.meaning o w in
          let Q : ℕ → Type 0 = λ x. IsKnownWithin g.meaning (get_or least x None) w
          → IsKnownWithin g.meaning (get_or next_of x None) w in
          let here : Q s = λ k. subst P (sym at_s)
          (best-known laws least (lawful_known least wit) (get_or least s None) moves
          (lawful_known least wit s) w pw k) in
          subst Q (sym same) here h)
      | inr ne ↦ (let P : Option W → Type 0 = λ o. IsKnownWithin g.meaning o w in subst P
          (sym (get_or-set_other least s q found_at None ne)) h)
    ]

    -- the run of a gain
    gained : (v : W) → found_at ≡ Some v → Gains laws least (get_or least s None) moves found_at
        → (arcs : List (TableArc W g)) × IsWitness states next_of s arcs × (weight_of arcs ≡ v)
    gained v e found =
        let arc = found.0 in
        let w = found.2 in
        let old = wit arc.target w found.3 in
        let rest = old.0 in
        let total = g.meaning.sum arc.weight w in
        let same : weight_of (arc ∷ rest) ≡ total = ap (λ x. g.meaning.sum arc.weight x) old.2 in
        let pt : g.meaning.lawful (weight_of (arc ∷ rest)) ≡ true = lawful-weight_of laws (arc ∷ rest) in
        let P : W → Type 0 = λ x. Improves g.meaning x (get_or least s None) in
        let better : Improves g.meaning (weight_of (arc ∷ rest)) (get_or least s None) = subst P (sym same) found.5 in
        let fresh : (t : Bool) → list_any (eqb s) (places arc.target rest) ≡ t
        → list_any (eqb s) (places arc.target rest) ≡ false = elim [
          | true ↦ λ t. absurd (not_both (get_or least s None) (weight_of rest) (weight_of (arc ∷ rest))
              (lawful-weight_of laws rest) pt (passes laws states least arc.target rest old.1 s t)
              (at_most-weight_of laws arc rest) better)
          | false ↦ λ t. t
        ] in
        let Q : Option W → Type 0 = λ o. IsKnownWithin g.meaning o (weight_of (arc ∷ rest)) in
        let known : get_or next_of s None ≡ Some (weight_of (arc ∷ rest)) = at_s ∙ found.4
        ∙ ap (λ x. Some x) (sym same) in
        let self : Q (Some (weight_of (arc ∷ rest))) = (pt, at_most-itself laws (weight_of (arc ∷ rest)) pt) in
        let value : total ≡ v = (let both : Some total ≡ Some v = sym found.4 ∙ e in cc) in (
          arc ∷ rest,
          (
            some arc found.1,
            subst Q (sym known) self,
            fresh (list_any (eqb s) (places arc.target rest)) refl,
            witness-falls least next_of step-falls arc.target rest old.1,
          ),
          same ∙ value,
        )

    pub step-at : (v : W) → found_at ≡ Some v
        → (arcs : List (TableArc W g)) × IsWitness states next_of s arcs × (weight_of arcs ≡ v)
    step-at v e = elim (best-cases laws least (lawful_known least wit) (get_or least s None) moves
        (lawful_known least wit s)) [
          | inl same ↦ (let old = wit s v (sym same ∙ e) in
              (old.0, witness-falls least next_of step-falls s old.0 old.1, old.2))
          | inr found ↦ gained v e found
        ]

    pub step-witnessed : AreWitnessed states next_of
    step-witnessed q v e = elim (cases_eq q s) [
      | inl same ↦
          (let Q : ℕ → Type 0 = λ x. get_or next_of x None ≡ Some v
          → (arcs : List (TableArc W g)) × IsWitness states next_of x arcs × (weight_of arcs ≡ v) in
          let here : Q s = λ f. step-at v (sym at_s ∙ f) in
          subst Q (sym same) here e)
      | inr ne ↦ (let old = wit q v (sym (get_or-set_other least s q found_at None ne) ∙ e) in
          (old.0, witness-falls least next_of step-falls q old.0 old.1, old.2))
    ]

    -- a run from s of one move more
    covered_at : ((arc : TableArc W g) → Contains (moves_at states s) arc → Contains moves arc) → TargetsExist states
        → (k : ℕ) → IsCovered states least k → s < length states → (arcs : List (TableArc W g)) → IsRun states s arcs
        → length arcs ≤ k + 1 → IsKnownWithin g.meaning found_at (weight_of arcs)
    covered_at all exist k cov ins [] run short =
        best-known laws least (lawful_known least wit) (get_or least s None) moves
        (lawful_known least wit s) g.meaning.zero laws.lawful_zero (cov s [] ins run (omega arith))
    covered_at all exist k cov ins (arc ∷ rest) run short = go (get_or least arc.target None) refl
        (cov arc.target rest (exist s arc run.0) run.1 (omega arith))
      where
        go : (o : Option W) → get_or least arc.target None ≡ o → IsKnownWithin g.meaning o (weight_of rest)
            → IsKnownWithin g.meaning found_at (weight_of (arc ∷ rest))
        go None e h = absurd h
        go (Some u) e h =
            IsKnownWithin-more laws found_at (g.meaning.sum arc.weight u) (weight_of (arc ∷ rest))
            (laws.lawful_sum arc.weight u arc.lawful h.0) (lawful-weight_of laws (arc ∷ rest))
            (best-move laws least (lawful_known least wit) (get_or least s None) moves (lawful_known least wit s) arc
            (all arc run.0) u e)
            (at_most-sum_left laws u (weight_of rest) arc.weight h.0 (lawful-weight_of laws rest) arc.lawful h.1)

    pub step-covered : (k : ℕ) → IsCovered states least k → IsCovered states next_of k
    step-covered k cov q arcs inn run short = step-falls q (weight_of arcs) (lawful-weight_of laws arcs)
        (cov q arcs inn run short)

    pub step-covered_more : ((arc : TableArc W g) → Contains (moves_at states s) arc → Contains moves arc)
        → TargetsExist states → (k : ℕ) → s < length states → IsCovered states least k
        → IsCoveredFrom states least (s + 1) (k + 1) → IsCoveredFrom states next_of s (k + 1)
    step-covered_more all exist k ins cov more q arcs low inn run short = elim (cases_eq q s) [
      | inl same ↦
          (let P : Option W → Type 0 = λ o. IsKnownWithin g.meaning o (weight_of arcs) in
          let Q : ℕ → Type 0 = λ x. IsRun states x arcs
          → IsKnownWithin g.meaning (get_or next_of x None) (weight_of arcs) in
          let here : Q s = λ r. subst P (sym at_s) (covered_at all exist k cov ins arcs r short) in
          subst Q (sym same) here run)
      | inr ne ↦ (let higher : s + 1 ≤ q = omega arith in step-falls q (weight_of arcs) (lawful-weight_of laws arcs)
          (more q arcs higher inn run short))
    ]

    -- a look that changes nothing leaves the list as it was
    pub step-same : get_or least s None ≡ found_at → next_of ≡ least
    step-same e = ap (λ o. set least s o) (sym e) ∙ set-get_or least s None

    pub step-closed : ((arc : TableArc W g) → Contains (moves_at states s) arc → Contains moves arc)
        → get_or least s None ≡ found_at → AreClosedFrom states least (s + 1) → AreClosedFrom states least s
    step-closed all e closed q arc w low inn inside known = elim (cases_eq q s) [
      | inl same ↦
          (let P : Option W → Type 0 = λ o. IsKnownWithin g.meaning o (g.meaning.sum arc.weight w) in
          let Q : ℕ → Type 0 = λ x. Contains (moves_at states x) arc
          → IsKnownWithin g.meaning (get_or least x None) (g.meaning.sum arc.weight w) in
          let here : Q s = λ c. subst P (sym e)
          (best-move laws least (lawful_known least wit) (get_or least s None) moves
          (lawful_known least wit s) arc (all arc c) w known) in
          subst Q (sym same) here inside)
      | inr ne ↦ (let higher : s + 1 ≤ q = omega arith in closed q arc w higher inn inside known)
    ]
