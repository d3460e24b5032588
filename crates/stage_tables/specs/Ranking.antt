-- The table of a single pass: one that is explored, with weights that are vectors.
use Rattle.std.specs.Prelude.{◌≡◌, ℕ, ◌<◌, ◌↔◌, List, length, All, Contains, IsTrue}
use Rattle.std.specs.List.{AllZip}
use Rattle.weight_law.specs.declared.Weight.{Ghosts}
use Rattle.weight_law.specs.declared.count.Count.{Count}
use Rattle.weight_law.specs.declared.ranked.Ranked.{Ranked}
use Rattle.weight_law.specs.Ranked.{IsOfVector}
use Rattle.tier_core.specs.declared.class.Class.{Class}
use Rattle.tier_core.specs.declared.kind.Kind.{Kind}
use Rattle.tier_core.specs.declared.sym.Sym.{Sym}
use Rattle.tier_core.specs.Classes.{has}
use Rattle.tier_core.specs.Filled.{is_filled}
use Rattle.tier_core.specs.KindNumbers.{kind_numbered}
use Rattle.symbol_class.specs.Parts.{IsAlike}
use Rattle.arc_table.specs.declared.arc.TableArc.{TableArc}
use Rattle.arc_table.specs.declared.state.TableState.{TableState}
use Rattle.arc_table.specs.Moves.{moves_at, accepting_at}
use Rattle.arc_table.specs.Runs.{Accepts, IsOnRun}
use Rattle.violation.specs.Candidates.{IsCandidate}
use Rattle.violation.specs.Moves.{move_costs}
use Rattle.kind_moves.specs.declared.frame.Frame.{Frame}
use Rattle.kind_moves.specs.Frames.{tiers_in, kind_at_stage, FitsFrame, problem_in}
use Rattle.kind_tables.specs.StageTables.{name_of, AreNamedByKinds}
use Rattle.stage_tables.specs.Explored.{names_at}
use Rattle.violation.specs.Problems.{last_stage}

-- what the move from a kind by a column costs under all constraints of a frame
abbrev pub costs_at : Frame → Kind → List Sym → List ℕ
costs_at frame kind column =
    move_costs (problem_in frame) (last_stage (problem_in frame))
    (kind_at_stage frame (last_stage (problem_in frame)) kind) column

-- a class holds columns as wide as the frame's columns are, which cost the same from a kind under each
-- constraint
pub record AreColumnsOf (frame : Frame) (kind : Kind) (class : Class) : Type 0 where
  pub filled : IsTrue (is_filled class)
  pub alike : IsAlike (costs_at frame kind) class
  pub wide : (column : List Sym) → IsTrue (has class column) → length column ≡ (tiers_in frame).width

-- the new move b from a kind is the old move a, and weighs what its columns cost
pub record IsRankedMove {g : Ghosts Count} {h : Ghosts Ranked} (frame : Frame) (kind : Kind) (a : TableArc Count g)
    (b : TableArc Ranked h) : Type 0 where
  pub same_class : b.class ≡ a.class
  pub same_target : b.target ≡ a.target
  pub weighs : (column : List Sym) → IsTrue (has a.class column) → IsOfVector b.weight (costs_at frame kind column)

-- the new states are the old ones, so many of the first ones: each accepts where the old one does, and
-- its moves are those of the old one, one by one
pub record AreRankedStates {g : Ghosts Count} {h : Ghosts Ranked} (frame : Frame) (kinds : List Kind)
    (old : List (TableState Count g)) (new : List (TableState Ranked h)) (n : ℕ) : Type 0 where
  pub count : length new ≡ n
  pub ends : (k : ℕ) → k < n → accepting_at new k ≡ accepting_at old k
  pub moves : (k : ℕ) → k < n → AllZip (IsRankedMove frame (kind_numbered kinds k)) (moves_at old k) (moves_at new k)

-- The table of all candidates, whatever its moves weigh: its states are named by kinds under all
-- constraints, whose bits fit the frame, each state is on a run, and the columns of each move cost the
-- same under each constraint.
pub record IsWholeTable {g : Ghosts Count} (frame : Frame) (kinds : List Kind)
    (states : List (TableState Count g)) : Type 0 where
  pub named : AreNamedByKinds (problem_in frame) (last_stage (problem_in frame))
      (names_at frame (last_stage (problem_in frame)) kinds) states
  pub fit : All (FitsFrame frame (last_stage (problem_in frame))) kinds
  pub accepts : (T : List (List Sym)) → Accepts states T ↔ IsCandidate (problem_in frame) T
  pub on_runs : (s : ℕ) → s < length states → IsOnRun states s
  pub alike : (s : ℕ) (arc : TableArc Count g) → Contains (moves_at states s) arc
      → IsAlike (move_costs (problem_in frame) (last_stage (problem_in frame))
      (name_of (names_at frame (last_stage (problem_in frame)) kinds) s)) arc.class
