-- The table of a stage: its states are named by kinds of prefixes, its moves go as these kinds do
-- and weigh what one constraint counts, and it accepts the candidates that the constraints before
-- have left (this project).
--
-- Such tables exist. What `ranked_gen` lists when no constraint is ranked, with the weight 0 on
-- each arc, is the table of stage 0. It has a state for each place of the form with each set of
-- open free tiers, named by that kind, and from it a move for each column that fits. It accepts
-- all candidates, which are the 0-optimal ones. Each of its states is on a run: a column that
-- starts its open tiers leads to it from the state with none open at its place or at the one
-- before, and each prefix that moves read goes on to a candidate.
use Rattle.std.specs.Prelude.{[], ◌≡◌, ◌≢◌, ℕ, ◌-◌, ◌<◌, ◌↔◌, List, length, slice_index_or, Contains, AllPairs, IsTrue}
use Rattle.weight_law.specs.declared.Weight.{Ghosts}
use Rattle.weight_law.specs.declared.count.Count.{Count}
use Rattle.tier_core.specs.declared.sym.Sym.{Sym}
use Rattle.tier_core.specs.Kinds.{PrefixKind}
use Rattle.tier_core.specs.Classes.{has}
use Rattle.arc_table.specs.declared.arc.TableArc.{TableArc}
use Rattle.arc_table.specs.declared.state.TableState.{TableState}
use Rattle.arc_table.specs.Conditions.{TargetsExist, ClassesFilled}
use Rattle.arc_table.specs.Moves.{moves_at, accepting_at}
use Rattle.arc_table.specs.Runs.{Accepts, IsOnRun}
use Rattle.violation.specs.Candidates.{IsOptimalFor}
use Rattle.violation.specs.Moves.{FitsKind, next_kind, is_final}
use Rattle.violation.specs.Prefixes.{kind_of}
pub use Rattle.violation.specs.Moves.{cost_of}
pub use Rattle.violation.specs.Stages.{IsStage}
use Rattle.violation.specs.Problems.{Problem}

-- the kind that names a state
abbrev pub name_of : List PrefixKind → ℕ → PrefixKind
name_of names s = slice_index_or names s (record { place = 0; opened = []; phases = [] })

-- On a column, a move from state s goes as the kinds do that name the states: the column fits the
-- name of s, and leads to the name of the target.
pub record GoesAsKinds {W : Type 0} {g : Ghosts W} (problem : Problem) (r : ℕ) (names : List PrefixKind) (s : ℕ)
    (arc : TableArc W g) (column : List Sym) : Type 0 where
  pub fits : FitsKind problem (name_of names s) column
  pub leads : name_of names arc.target ≡ next_kind problem r (name_of names s) column

-- The states of a table are named by kinds under the first r constraints: each by one of its own,
-- the start by that of the empty prefix. A state accepts if its name is final, and each move goes
-- to a state as the kinds do, on each column of its class, which is not empty.
pub record AreNamedByKinds {W : Type 0} {g : Ghosts W} (problem : Problem) (r : ℕ) (names : List PrefixKind)
    (states : List (TableState W g)) : Type 0 where
  pub each_named : length names ≡ length states
  pub distinct : AllPairs (λ k l. k ≢ l) names
  pub some : 0 < length states
  pub start : name_of names 0 ≡ kind_of problem r []
  pub ends : (s : ℕ) → s < length states → accepting_at states s ≡ is_final problem (name_of names s)
  pub moves : (s : ℕ) (arc : TableArc W g) (column : List Sym) → Contains (moves_at states s) arc
      → IsTrue (has arc.class column) → GoesAsKinds problem r names s arc column
  pub targets : TargetsExist states
  pub filled : ClassesFilled states

-- each move weighs what each column of its class costs under constraint r from the name of its
-- state
abbrev pub AreWeighed : {g : Ghosts Count} → Problem → ℕ → List PrefixKind → List (TableState Count g) → Type 0
AreWeighed {g} problem r names states =
    (s : ℕ) (arc : TableArc Count g) (column : List Sym) → Contains (moves_at states s) arc
    → IsTrue (has arc.class column) → arc.weight.0 ≡ cost_of problem r (name_of names s) column

-- The table of stage r, with the names of its states: they are kinds under the first r constraints,
-- its moves weigh what these cost under constraint r, it accepts exactly the (r-1)-optimal
-- candidates, and each of its states is on a run. For r = 0 it accepts all candidates, since
-- `0 - 1` is 0 and each candidate is 0-optimal.
pub record IsStageTable {g : Ghosts Count} (problem : Problem) (r : ℕ) (names : List PrefixKind)
    (states : List (TableState Count g)) : Type 0 where
  pub named : AreNamedByKinds problem r names states
  pub weighed : AreWeighed problem r names states
  pub accepts : (T : List (List Sym)) → Accepts states T ↔ IsOptimalFor problem (r - 1) T
  pub on_runs : (s : ℕ) → s < length states → IsOnRun states s
