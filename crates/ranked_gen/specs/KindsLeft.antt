-- The kinds of the states that a stage leaves.
use Rattle.std.specs.Prelude.{ℕ, List, All}
use Rattle.tier_core.specs.declared.kind.Kind.{Kind}
use Rattle.weight_law.specs.declared.Weight.{Ghosts}
use Rattle.weight_law.specs.declared.unit_weight.UnitWeight.{UnitWeight}
use Rattle.arc_table.specs.declared.state.TableState.{TableState}
use Rattle.kind_moves.specs.declared.frame.Frame.{Frame}
use Rattle.kind_moves.specs.Frames.{problem_in, FitsFrame}
use Rattle.stage_tables.specs.Explored.{names_at}
use Rattle.stage_tables.specs.Kept.{AreKeptByKinds}

-- each state of what stage r leaves is named by one of the kinds, whose bits fit the frame
pub record AreKindsLeft {g : Ghosts UnitWeight} (frame : Frame) (r : ℕ) (kept : List (TableState UnitWeight g))
    (kinds : List Kind) : Type 0 where
  pub by : AreKeptByKinds (problem_in frame) r (names_at frame r kinds) kept
  pub fit : All (FitsFrame frame r) kinds
