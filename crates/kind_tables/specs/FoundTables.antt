-- How the tables of the stages are found: that of stage 0 by going on by kinds from the start, and
-- each later one from the table that was pruned before it, by going on by kinds under one more
-- constraint (this project). More than one may be added at once.
use Rattle.std.specs.Prelude.{[], ◌≡◌, ◌≢◌, ℕ, ◌<◌, ◌↔◌, List, length, map, slice_index_or, Contains, AllPairs, IsTrue}
use Rattle.weight_law.specs.declared.Weight.{Ghosts}
use Rattle.weight_law.specs.declared.count.Count.{Count}
use Rattle.tier_core.specs.declared.sym.Sym.{Sym}
use Rattle.tier_core.specs.Kinds.{PrefixKind}
use Rattle.tier_core.specs.Classes.{has}
use Rattle.arc_table.specs.declared.arc.TableArc.{TableArc}
use Rattle.arc_table.specs.declared.state.TableState.{TableState}
use Rattle.arc_table.specs.Conditions.{TargetsExist, ClassesFilled}
use Rattle.arc_table.specs.Moves.{moves_at, accepting_at}
use Rattle.violation.specs.Moves.{FitsKind, next_kind, cut_kind}
use Rattle.violation.specs.Prefixes.{kind_of}
use Rattle.kind_tables.specs.StageTables.{name_of}
use Rattle.violation.specs.Problems.{Problem}

-- some move from a state reads a column
abbrev pub HasMoveOn : {W : Type 0} {g : Ghosts W} → List (TableState W g) → ℕ → List Sym → Type 0
HasMoveOn {W} {g} states s column = (arc : TableArc W g) × Contains (moves_at states s) arc × IsTrue
    (has arc.class column)

-- each state but the start is the target of a move from an earlier one
abbrev pub AreReached : {W : Type 0} {g : Ghosts W} → List (TableState W g) → Type 0
AreReached {W} {g} states = (s : ℕ) → 0 < s → s < length states
    → (t : ℕ) × (t < s) × ((arc : TableArc W g) × Contains (moves_at states t) arc × (arc.target ≡ s))

-- from each state there is a move on each column that fits its name
abbrev pub HaveAllMoves : {W : Type 0} {g : Ghosts W} → Problem → List PrefixKind → List (TableState W g) → Type 0
HaveAllMoves problem names states = (s : ℕ) (column : List Sym) → s < length states
    → FitsKind problem (name_of names s) column → HasMoveOn states s column

-- the names of the states of a pruned table, which has the numbers of these states in the old one
abbrev pub names_kept : List PrefixKind → List ℕ → List PrefixKind
names_kept names old = map (name_of names) old

-- the state of the pruned table that a state belongs to
abbrev pub base_of : List ℕ → ℕ → ℕ
base_of bases s = slice_index_or bases s 0

-- The states of `found` are named by kinds under the first n constraints, each by one of its own,
-- the start by that of the empty prefix. Each belongs to a state of `pruned`, its base, whose name
-- is its own cut to r constraints. It accepts if its base does, and has a move on each column on
-- which its base has one, which leads to the state that is named by the kind to which the column
-- leads. Each state but the start is the target of a move from an earlier one.
pub record AreFoundFrom {V : Type 0} {h : Ghosts V} {g : Ghosts Count} (problem : Problem) (r n : ℕ)
    (pruned_names : List PrefixKind) (pruned : List (TableState V h)) (bases : List ℕ) (names : List PrefixKind)
    (found : List (TableState Count g)) : Type 0 where
  pub each_named : length names ≡ length found
  pub distinct : AllPairs (λ k l. k ≢ l) names
  pub some : 0 < length found
  pub start : name_of names 0 ≡ kind_of problem n []
  pub based : (s : ℕ) → s < length found → base_of bases s < length pruned
  pub cuts : (s : ℕ) → s < length found → cut_kind problem r (name_of names s) ≡ name_of pruned_names (base_of bases s)
  pub ends : (s : ℕ) → s < length found → accepting_at found s ≡ accepting_at pruned (base_of bases s)
  pub columns : (s : ℕ) (column : List Sym) → s < length found
      → HasMoveOn found s column ↔ HasMoveOn pruned (base_of bases s) column
  pub leads : (s : ℕ) (arc : TableArc Count g) (column : List Sym) → Contains (moves_at found s) arc
      → IsTrue (has arc.class column) → name_of names arc.target ≡ next_kind problem n (name_of names s) column
  pub targets : TargetsExist found
  pub filled : ClassesFilled found
  pub reached : AreReached found
