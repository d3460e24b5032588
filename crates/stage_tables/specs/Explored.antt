-- What exploring a kept table gives.
use Rattle.std.specs.Prelude.{◌≡◌, ◌≢◌, ℕ, ◌<◌, ◌↔◌, ◌++◌, List, length, map, All, AllPairs, Contains}
use Rattle.weight_law.specs.declared.Weight.{Ghosts}
use Rattle.weight_law.specs.declared.count.Count.{Count}
use Rattle.weight_law.specs.declared.unit_weight.UnitWeight.{UnitWeight}
use Rattle.tier_core.specs.declared.kind.Kind.{Kind}
use Rattle.tier_core.specs.declared.sym.Sym.{Sym}
use Rattle.tier_core.specs.Kinds.{PrefixKind}
use Rattle.symbol_class.specs.Parts.{IsAlike}
use Rattle.arc_table.specs.declared.arc.TableArc.{TableArc}
use Rattle.arc_table.specs.Moves.{moves_at}
use Rattle.violation.specs.Moves.{move_costs}
use Rattle.arc_table.specs.declared.state.TableState.{TableState}
use Rattle.arc_table.specs.Runs.{Accepts, IsOnRun}
use Rattle.violation.specs.Candidates.{IsCandidate}
use Rattle.violation.specs.Prefixes.{kind_of}
use Rattle.kind_moves.specs.declared.frame.Frame.{Frame}
use Rattle.kind_moves.specs.Frames.{kind_at_stage, FitsFrame}
use Rattle.kind_tables.specs.StageTables.{name_of, AreNamedByKinds, AreWeighed}
use Rattle.kind_moves.specs.Frames.{problem_in}

-- the kinds that bits encode at a stage
abbrev pub names_at : Frame → ℕ → List Kind → List PrefixKind
names_at frame stage kinds = map (kind_at_stage frame stage) kinds

-- A kept table is explored under the first constraints of a frame: the new states are named by the
-- kinds, whose bits fit the frame, the moves weigh what they cost under the last of the
-- constraints, the table accepts the words that the kept one accepts, and each state is on a run.
pub record IsExplored {g : Ghosts UnitWeight} {h : Ghosts Count} (frame : Frame) (stage : ℕ)
    (kept : List (TableState UnitWeight g)) (kinds : List Kind) (states : List (TableState Count h)) : Type 0 where
  pub named : AreNamedByKinds (problem_in frame) stage (names_at frame stage kinds) states
  pub weighed : AreWeighed (problem_in frame) stage (names_at frame stage kinds) states
  pub fit : All (FitsFrame frame stage) kinds
  pub accepts : (T : List (List Sym)) → Accepts states T ↔ Accepts kept T
  pub on_runs : (s : ℕ) → s < length states → IsOnRun states s

-- The table of all candidates under the first constraints of a frame: the states are named by the
-- kinds, whose bits fit the frame, the moves weigh what they cost under the last of the constraints,
-- the table accepts exactly the candidates, each state is on a run, and the columns of each move cost
-- the same under each constraint.
pub record IsComplete {h : Ghosts Count} (frame : Frame) (stage : ℕ) (kinds : List Kind)
    (states : List (TableState Count h)) : Type 0 where
  pub named : AreNamedByKinds (problem_in frame) stage (names_at frame stage kinds) states
  pub weighed : AreWeighed (problem_in frame) stage (names_at frame stage kinds) states
  pub fit : All (FitsFrame frame stage) kinds
  pub accepts : (T : List (List Sym)) → Accepts states T ↔ IsCandidate (problem_in frame) T
  pub on_runs : (s : ℕ) → s < length states → IsOnRun states s
  pub alike : (s : ℕ) (arc : TableArc Count h) → Contains (moves_at states s) arc
      → IsAlike (move_costs (problem_in frame) stage (name_of (names_at frame stage kinds) s)) arc.class

-- the kind is that of a prefix of one of some timelines
pub record IsMet (frame : Frame) (stage : ℕ) (timelines : List (List Sym) → Type 0) (kind : PrefixKind) : Type 0 where
  pub prefix : List (List Sym)
  pub rest : List (List Sym)
  pub accepted : timelines (prefix ++ rest)
  pub of_kind : kind_of (problem_in frame) stage prefix ≡ kind

-- more kinds than the budget are those of prefixes of some timelines
pub record HasMoreKinds (frame : Frame) (stage : ℕ) (timelines : List (List Sym) → Type 0)
    (budget : ℕ) : Type 0 where
  pub kinds : List PrefixKind
  pub distinct : AllPairs (λ k l. k ≢ l) kinds
  pub met : All (IsMet frame stage timelines) kinds
  pub more : budget < length kinds
