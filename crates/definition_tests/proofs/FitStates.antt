-- States that are fit meet what every table's states meet.
use Rattle.std.proofs.Common.{◌≡◌, ℕ, zero, suc, ◌<◌, ◌≤◌, List, [], ◌∷◌, map, length, get_or, refl, sym, ap, ◌∙◌}
use Rattle.std.proofs.{Common.{subst, arith}, lemmas.List.Elements.Contains-get_or}
use Rattle.std.specs.Prelude.{Contains, AllPairs}
use Rattle.weight_law.specs.declared.Weight.{Ghosts}
use Rattle.arc_table.specs.{declared.arc.TableArc.TableArc, declared.state.TableState.TableState, Moves.moves_at}
use Rattle.arc_table.specs.{Conditions.{TargetsExist, ClassesDisjoint, ClassesFilled, OneWidth}, Runs.SizesWithin}
use Rattle.tier_core.specs.Classes.{AreDisjoint}
use Rattle.arc_table.proofs.Push.{moves_exist}
use Rattle.definition_tests.specs.Fit.{IsFit, AreFit}

module _ {W : Type 0} {g : Ghosts W} where
  state_at : (states : List (TableState W g)) (s : ℕ) → s < length states
      → (state : TableState W g) × (get_or states s state ≡ state) × (moves_at states s ≡ state.arcs.items)
  state_at [] s l = absurd (omega (arith, l))
  state_at (x ∷ xs) zero l = (x, refl, refl)
  state_at (x ∷ xs) (suc s) l = state_at xs s (omega arith)

  module _ (states : List (TableState W g)) (fit : AreFit states) where
    fit_at : (s : ℕ) (arc : TableArc W g) → Contains (moves_at states s) arc → IsFit (length states) arc
    fit_at s arc here =
        let inside = moves_exist states s arc here in
        let found = state_at states s inside in
        let P : TableState W g → Type 0 = λ state. (k : ℕ) (d : TableArc W g) → k < length state.arcs.items
        → IsFit (length states) (get_or state.arcs.items k d) in
        let all = subst P found.1 (fit s found.0 inside).0 in
        let Q : List (TableArc W g) → Type 0 = λ xs. Contains xs arc in
        let there : Q found.0.arcs.items = subst Q found.2 here in
        let R : TableArc W g → Type 0 = IsFit (length states) in
        subst R there.2 (all there.0 arc there.1)

    pub fit_targets : TargetsExist states
    fit_targets s arc here = (fit_at s arc here).0

    pub fit_sizes : SizesWithin states 4294967295
    fit_sizes s arc here = (fit_at s arc here).1

    pub fit_width : OneWidth states
    fit_width s t a b here there = (fit_at s a here).2 ∙ sym (fit_at t b there).2

    pub fit_filled : ClassesFilled states
    fit_filled s arc here = (fit_at s arc here).3

    pub fit_disjoint : ClassesDisjoint states
    fit_disjoint s i j d less inside =
        let within = moves_exist states s (get_or (moves_at states s) j d)
        (Contains-get_or (moves_at states s) j d inside) in
        let found = state_at states s within in
        let P : TableState W g → Type 0 = λ state. AllPairs (λ a b. AreDisjoint a.class b.class) state.arcs.items in
        let Q : List (TableArc W g) → Type 0 = λ xs. AllPairs (λ a b. AreDisjoint a.class b.class) xs in
        let all : Q (moves_at states s) = subst Q (sym found.2) (subst P found.1 (fit s found.0 within).1) in
        all i j d less inside
