-- Kept tables: what the constraints before have left of a stage's table. Their moves weigh nothing.
use Rattle.std.specs.Prelude.{ℕ, ◌<◌, List, length}
use Rattle.weight_law.specs.declared.Weight.{Ghosts}
use Rattle.weight_law.specs.declared.unit_weight.UnitWeight.{UnitWeight}
use Rattle.tier_core.specs.Kinds.{PrefixKind}
use Rattle.arc_table.specs.declared.state.TableState.{TableState}
use Rattle.arc_table.specs.Runs.{IsOnRun}
use Rattle.kind_tables.specs.StageTables.{AreNamedByKinds}
use Rattle.violation.specs.Problems.{Problem}

-- The states of a kept table are named by kinds under the first r constraints, and each state is on a
-- run.
pub record AreKeptByKinds {g : Ghosts UnitWeight} (problem : Problem) (r : ℕ) (names : List PrefixKind)
    (states : List (TableState UnitWeight g)) : Type 0 where
  pub named : AreNamedByKinds problem r names states
  pub on_runs : (s : ℕ) → s < length states → IsOnRun states s

-- the states of a kept table can be named by kinds in this way
abbrev pub IsKeptTable : {g : Ghosts UnitWeight} → Problem → ℕ → List (TableState UnitWeight g) → Type 0
IsKeptTable problem r states = (names : List PrefixKind) × AreKeptByKinds problem r names states
