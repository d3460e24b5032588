-- The table of a single pass: its states are named by kinds under all constraints, its moves go as
-- these kinds do and weigh what all constraints count, and it accepts all candidates (this project).
use Rattle.std.specs.Prelude.{ℕ, ◌<◌, ◌≤◌, ◌↔◌, List, length, Contains, IsTrue}
use Rattle.weight_law.specs.declared.Weight.{Ghosts}
use Rattle.weight_law.specs.declared.ranked.Ranked.{Ranked}
use Rattle.weight_law.specs.Ranked.{IsOfVector}
use Rattle.tier_core.specs.declared.sym.Sym.{Sym}
use Rattle.tier_core.specs.Classes.{has}
use Rattle.tier_core.specs.Kinds.{PrefixKind}
use Rattle.arc_table.specs.declared.arc.TableArc.{TableArc}
use Rattle.arc_table.specs.declared.state.TableState.{TableState}
use Rattle.arc_table.specs.Moves.{moves_at}
use Rattle.arc_table.specs.Runs.{Accepts, IsOnRun}
use Rattle.violation.specs.Candidates.{IsCandidate}
use Rattle.violation.specs.Moves.{move_costs}
use Rattle.kind_tables.specs.StageTables.{IsStage, name_of, AreNamedByKinds}
use Rattle.violation.specs.Problems.{Problem, last_stage}

-- each move weighs what each column of its class costs under each constraint from the name of its state
abbrev pub AreWeighedByAll : {g : Ghosts Ranked} → Problem → List PrefixKind → List (TableState Ranked g) → Type 0
AreWeighedByAll {g} problem names states =
    (s : ℕ) (arc : TableArc Ranked g) (column : List Sym) → Contains (moves_at states s) arc
    → IsTrue (has arc.class column)
    → IsOfVector arc.weight (move_costs problem (last_stage problem) (name_of names s) column)

-- The table of a single pass, with the names of its states: they are kinds under all constraints, its
-- moves weigh what these cost under each, it accepts exactly the candidates, and each of its states is
-- on a run.
pub record IsRankedTable {g : Ghosts Ranked} (problem : Problem) (names : List PrefixKind)
    (states : List (TableState Ranked g)) : Type 0 where
  pub named : AreNamedByKinds problem (last_stage problem) names states
  pub weighed : AreWeighedByAll problem names states
  pub accepts : (T : List (List Sym)) → Accepts states T ↔ IsCandidate problem T
  pub on_runs : (s : ℕ) → s < length states → IsOnRun states s

-- What a single pass stands on: tiers, constraints and a form as every stage has them, no more
-- constraints than a weight has parts, and the table.
pub record IsSinglePass {g : Ghosts Ranked} (problem : Problem) (names : List PrefixKind)
    (states : List (TableState Ranked g)) : Type 0 where
  pub stage : IsStage problem (last_stage problem)
  pub few : last_stage problem ≤ 24
  pub table : IsRankedTable problem names states
