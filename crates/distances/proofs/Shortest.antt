-- What follows from the least weights of a table, however they were found.
use Rattle.std.proofs.Common.{◌≡◌, ℕ, ◌<◌, Bool, true, false, eqb, List, [], ◌∷◌, Option, None, Some, length}
use Rattle.std.proofs.Common.{get_or, refl, sym, ap, ◌∙◌, subst, arith, inl, inr}
use Rattle.std.proofs.{lemmas.Bool.{false≢true, cases_lt, eqb-true, or_cases}, lemmas.List.get_or_past}
use Rattle.std.specs.{Prelude.{Contains, MatchOption}, List.list_any}
use Rattle.weight_law.specs.{declared.Weight.Ghosts, Meaning.{AtMost, IsLawful}}
use Rattle.weight_law.proofs.Order.{at_most-itself, at_most-trans, at_most-both, at_most-cancel_left}
use Rattle.arc_table.specs.{declared.arc.TableArc.TableArc, declared.state.TableState.TableState, Moves.moves_at}
use Rattle.arc_table.specs.{Conditions.TargetsExist, Runs.{IsRun, weight_of, HasNoRun, IsLeastFrom}}
use Rattle.distances.specs.{Least.AreLeast, Rounds.{IsKnownWithin, places, IsWitness, AreWitnessed}}
use Rattle.distances.proofs.Witness.{lawful-weight_of, run_of, at_most-weight_of}

module _ {W : Type 0} {g : Ghosts W} (laws : IsLawful g.meaning) (states : List (TableState W g))
    (exist : TargetsExist states) (least : List (Option W)) (are : AreLeast states least) where
  -- only states have a weight
  pub weighed_exists : (s : ℕ) (w : W) → get_or least s None ≡ Some w → s < length states
  weighed_exists s w e = elim (cases_lt s (length states)) [
    | inl l ↦ l
    | inr l ↦ (let gone : get_or least s None ≡ None = get_or_past least s None (omega (arith, are.each_state)) in cc)
  ]

  pub least_at : (s : ℕ) (w : W) → get_or least s None ≡ Some w → IsLeastFrom states s w
  least_at s w e =
      let P : Option W → Type 0 = λ o. MatchOption o (HasNoRun states s) (IsLeastFrom states s) in
      let h : P (Some w) = subst P e (are.each s (weighed_exists s w e)) in
      h

  pub lawful_least : (s : ℕ) (w : W) → get_or least s None ≡ Some w → g.meaning.lawful w ≡ true
  lawful_least s w e =
      let found = (least_at s w e).some in
      let P : W → Type 0 = λ x. g.meaning.lawful x ≡ true in
      subst P found.2 (lawful-weight_of laws found.0)

  -- a state has one least weight
  pub least_same : (s : ℕ) (v w : W) → IsLeastFrom states s v → get_or least s None ≡ Some w → v ≡ w
  least_same s v w from e =
      let best = least_at s w e in
      let P : W → Type 0 = λ x. g.meaning.lawful x ≡ true in
      let Q : W → Type 0 = λ x. AtMost g.meaning v x in
      let R : W → Type 0 = λ x. AtMost g.meaning w x in
      at_most-both laws v w (subst P from.some.2 (lawful-weight_of laws from.some.0)) (lawful_least s w e)
      (subst Q best.some.2 (from.least best.some.0 best.some.1))
      (subst R from.some.2 (best.least from.some.0 from.some.1))

  -- a run gives its state a weight
  pub weighed : (s : ℕ) (arcs : List (TableArc W g)) → s < length states → IsRun states s arcs
      → (w : W) × (get_or least s None ≡ Some w)
  weighed s arcs inside run = go (get_or least s None) refl
    where
      go : (o : Option W) → get_or least s None ≡ o → (w : W) × (o ≡ Some w)
      go None e =
          let P : Option W → Type 0 = λ o. MatchOption o (HasNoRun states s) (IsLeastFrom states s) in
          let h : P None = subst P e (are.each s inside) in
          absurd (h arcs run)
      go (Some w) e = (w, refl)

  pub within_run : (s : ℕ) (arcs : List (TableArc W g)) → s < length states → IsRun states s arcs
      → IsKnownWithin g.meaning (get_or least s None) (weight_of arcs)
  within_run s arcs inside run =
      let found = weighed s arcs inside run in
      let P : Option W → Type 0 = λ o. IsKnownWithin g.meaning o (weight_of arcs) in
      let h : P (Some found.0) = (lawful_least s found.0 found.1, (least_at s found.0 found.1).least arcs run) in
      subst P (sym found.1) h

  -- a run of least weight is so from its second state on
  pub tight_step : (s : ℕ) (w : W) (arc : TableArc W g) (rest : List (TableArc W g)) → get_or least s None ≡ Some w
      → IsRun states s (arc ∷ rest) → weight_of (arc ∷ rest) ≡ w
      → (b : W) × (get_or least arc.target None ≡ Some b) × (weight_of rest ≡ b) × (g.meaning.sum arc.weight b ≡ w)
  tight_step s w arc rest e run same =
      let found = weighed arc.target rest (exist s arc run.0) run.1 in
      let b = found.0 in
      let best = least_at arc.target b found.1 in
      let pb = lawful_least arc.target b found.1 in
      let pr = lawful-weight_of laws rest in
      let other : IsRun states s (arc ∷ best.some.0) = (run.0, best.some.1) in
      let bound : AtMost g.meaning w (g.meaning.sum arc.weight b) =
      (let P : W → Type 0 = λ x. AtMost g.meaning w (g.meaning.sum arc.weight x) in subst P best.some.2
      ((least_at s w e).least (arc ∷ best.some.0) other)) in
      let moved : AtMost g.meaning (g.meaning.sum arc.weight (weight_of rest)) (g.meaning.sum arc.weight b) =
      (let P : W → Type 0 = λ x. AtMost g.meaning x (g.meaning.sum arc.weight b) in subst P (sym same) bound) in
      let equal : weight_of rest ≡ b = at_most-both laws (weight_of rest) b pr pb
      (at_most-cancel_left laws (weight_of rest) b arc.weight pr pb arc.lawful moved) (best.least rest run.1) in
      (b, found.1, equal, ap (λ x. g.meaning.sum arc.weight x) (sym equal) ∙ same)

  -- from each place of a witness on, it weighs no more
  suffix : (t : ℕ) (arcs : List (TableArc W g)) → IsWitness states least t arcs → (q : ℕ)
      → list_any (eqb q) (places t arcs) ≡ true
      → (others : List (TableArc W g)) × IsWitness states least q others × AtMost g.meaning (weight_of others)
      (weight_of arcs)
  suffix t [] h q e =
      let same : q ≡ t = elim (or_cases (eqb q t) false e) [ inl a ↦ eqb-true q t a | inr b ↦ absurd (false≢true b) ] in
      let P : ℕ → Type 0 = λ x. IsWitness states least x [] in
      ([], subst P (sym same) h, at_most-itself laws g.meaning.zero laws.lawful_zero)
  suffix t (arc ∷ arcs) h q e =
      let P : ℕ → Type 0 = λ x. IsWitness states least x (arc ∷ arcs) in
      let later : list_any (eqb q) (places arc.target arcs) ≡ true
      → (others : List (TableArc W g)) × IsWitness states least q others × AtMost g.meaning (weight_of others)
      (weight_of (arc ∷ arcs)) = λ b.
      (let found = suffix arc.target arcs h.3 q b in (
        found.0,
        found.1,
        at_most-trans laws (weight_of found.0) (weight_of arcs) (weight_of (arc ∷ arcs))
            (lawful-weight_of laws found.0) (lawful-weight_of laws arcs) (lawful-weight_of laws (arc ∷ arcs)) found.2
            (at_most-weight_of laws arc arcs),
      ))
      in
      elim (or_cases (eqb q t) (list_any (eqb q) (places arc.target arcs)) e) [
        | inl a ↦ (
          arc ∷ arcs,
          subst P (sym (eqb-true q t a)) h,
          at_most-itself laws (weight_of (arc ∷ arcs)) (lawful-weight_of laws (arc ∷ arcs)),
        )
        | inr b ↦ later b
      ]

  -- one move in front of a witness, or what the witness has of its state already
  extend : (s : ℕ) (w b : W) (arc : TableArc W g) (rest : List (TableArc W g)) → get_or least s None ≡ Some w
      → Contains (moves_at states s) arc → IsWitness states least arc.target rest → weight_of rest ≡ b
      → g.meaning.sum arc.weight b ≡ w → (others : List (TableArc W g)) × IsWitness states least s others ×
      (weight_of others ≡ w)
  extend s w b arc rest e here wit same total = go (list_any (eqb s) (places arc.target rest)) refl
    where
      whole : weight_of (arc ∷ rest) ≡ w
      whole = ap (λ x. g.meaning.sum arc.weight x) same ∙ total

      run : IsRun states s (arc ∷ rest)
      run = (here, run_of laws states least arc.target rest wit)

      go : (t : Bool) → list_any (eqb s) (places arc.target rest) ≡ t
          → (others : List (TableArc W g)) × IsWitness states least s others × (weight_of others ≡ w)
      go false f = (arc ∷ rest, (here, within_run s (arc ∷ rest) (weighed_exists s w e) run, f, wit), whole)
      go true f =
          let found = suffix arc.target rest wit s f in
          let pf = lawful-weight_of laws found.0 in
          let pw = lawful_least s w e in
          let P : W → Type 0 = λ x. AtMost g.meaning (weight_of found.0) x in
          let upper : AtMost g.meaning (weight_of found.0) w =
          subst P whole (at_most-trans laws (weight_of found.0) (weight_of rest) (weight_of (arc ∷ rest)) pf
          (lawful-weight_of laws rest) (lawful-weight_of laws (arc ∷ rest)) found.2
          (at_most-weight_of laws arc rest)) in (
            found.0,
            found.1,
            at_most-both laws (weight_of found.0) w pf pw upper
                ((least_at s w e).least found.0 (run_of laws states least s found.0 found.1)),
          )

  -- a run of least weight without the rounds that it takes
  simple : (s : ℕ) (arcs : List (TableArc W g)) (w : W) → IsRun states s arcs → get_or least s None ≡ Some w
      → weight_of arcs ≡ w → (others : List (TableArc W g)) × IsWitness states least s others × (weight_of others ≡ w)
  simple s [] w run e same = ([], (run, within_run s [] (weighed_exists s w e) run), same)
  simple s (arc ∷ rest) w run e same =
      let step = tight_step s w arc rest e run same in
      let found = simple arc.target rest step.0 run.1 step.1 step.2 in
      extend s w step.0 arc found.0 e run.0 found.1 found.2 step.3

  pub witnessed_from_least : AreWitnessed states least
  witnessed_from_least s w e =
      let found = (least_at s w e).some in
      simple s found.0 w found.1 e found.2
