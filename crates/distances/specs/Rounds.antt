-- What is kept while weights are found by rounds.
use Rattle.std.specs.Prelude.{◌≡◌, ℕ, ◌≤◌, ◌<◌, List, [], ◌∷◌, Option, None, Some, true, false, IsTrue, Contains, slice_index_or, length}
use Rattle.std.specs.List.{list_any}
use Rattle.std.proofs.Common.{eqb}
use Rattle.weight_law.specs.declared.Weight.{Ghosts}
use Rattle.weight_law.specs.Meaning.{Meaning, AtMost}
use Rattle.arc_table.specs.declared.arc.TableArc.{TableArc}
use Rattle.arc_table.specs.declared.state.TableState.{TableState}
use Rattle.arc_table.specs.Moves.{moves_at, accepting_at}
use Rattle.arc_table.specs.Runs.{IsRun, weight_of}

-- something is known, and it is at most w
abbrev pub IsKnownWithin : {W : Type 0} → Meaning W → Option W → W → Type 0
IsKnownWithin m None w = ⊥
IsKnownWithin m (Some u) w = (m.lawful u ≡ true) × AtMost m u w

-- the states of a run, in turn
abbrev pub places : {W : Type 0} {g : Ghosts W} → ℕ → List (TableArc W g) → List ℕ
places s [] = s ∷ []
places s (arc ∷ arcs) = s ∷ places arc.target arcs

-- a run from s that visits no state twice, and at each state weighs no less than what is known
-- there
abbrev pub IsWitness : {W : Type 0} {g : Ghosts W} → List (TableState W g) → List (Option W) → ℕ → List (TableArc W g)
    → Type 0
IsWitness {W} {g} states least s [] =
    IsTrue (accepting_at states s) × IsKnownWithin g.meaning (slice_index_or least s None) g.meaning.zero
IsWitness {W} {g} states least s (arc ∷ arcs) =
    Contains (moves_at states s) arc
    × IsKnownWithin g.meaning (slice_index_or least s None) (weight_of (arc ∷ arcs))
    × (list_any (eqb s) (places arc.target arcs) ≡ false)
    × IsWitness states least arc.target arcs

-- each known weight is that of such a run
abbrev pub AreWitnessed : {W : Type 0} {g : Ghosts W} → List (TableState W g) → List (Option W) → Type 0
AreWitnessed {W} {g} states least =
    (s : ℕ) (w : W) → slice_index_or least s None ≡ Some w →
    (arcs : List (TableArc W g)) × IsWitness states least s arcs × (weight_of arcs ≡ w)

-- what is known of each state from n on is at most the weight of each run of at most k moves
abbrev pub IsCoveredFrom : {W : Type 0} {g : Ghosts W} → List (TableState W g) → List (Option W) → ℕ → ℕ → Type 0
IsCoveredFrom {W} {g} states least n k =
    (s : ℕ) (arcs : List (TableArc W g)) → n ≤ s → s < length states → IsRun states s arcs → length arcs ≤ k →
    IsKnownWithin g.meaning (slice_index_or least s None) (weight_of arcs)

-- the same for every state
abbrev pub IsCovered : {W : Type 0} {g : Ghosts W} → List (TableState W g) → List (Option W) → ℕ → Type 0
IsCovered {W} {g} states least k =
    (s : ℕ) (arcs : List (TableArc W g)) → s < length states → IsRun states s arcs → length arcs ≤ k →
    IsKnownWithin g.meaning (slice_index_or least s None) (weight_of arcs)

-- no move of a state from n on leads to less than what is known
abbrev pub AreClosedFrom : {W : Type 0} {g : Ghosts W} → List (TableState W g) → List (Option W) → ℕ → Type 0
AreClosedFrom {W} {g} states least n =
    (s : ℕ) (arc : TableArc W g) (w : W) → n ≤ s → s < length states → Contains (moves_at states s) arc →
    slice_index_or least arc.target None ≡ Some w →
    IsKnownWithin g.meaning (slice_index_or least s None) (g.meaning.sum arc.weight w)

-- no move leads to less than what is known
abbrev pub AreClosed : {W : Type 0} {g : Ghosts W} → List (TableState W g) → List (Option W) → Type 0
AreClosed {W} {g} states least =
    (s : ℕ) (arc : TableArc W g) (w : W) → s < length states → Contains (moves_at states s) arc →
    slice_index_or least arc.target None ≡ Some w →
    IsKnownWithin g.meaning (slice_index_or least s None) (g.meaning.sum arc.weight w)
