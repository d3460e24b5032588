-- The table of one state that accepts every timeline of a width.
use Rattle.std.specs.Prelude.{◌≡◌, ℕ, true, List, length, Contains}
use Rattle.weight_law.specs.declared.Weight.{Ghosts}
use Rattle.weight_law.specs.declared.unit_weight.UnitWeight.{UnitWeight}
use Rattle.tier_core.specs.declared.sym.Sym.{Sym}
use Rattle.tier_core.specs.Classes.{sets_of, has}
use Rattle.arc_table.specs.declared.arc.TableArc.{TableArc}
use Rattle.arc_table.specs.declared.state.TableState.{TableState}
use Rattle.arc_table.specs.Moves.{moves_at}
use Rattle.kind_moves.specs.declared.frame.Frame.{Frame}
use Rattle.kind_moves.specs.Frames.{tiers_in}

-- a move on every column of a frame, to state 0
pub record IsWholeMove {g : Ghosts UnitWeight} (frame : Frame) (arc : TableArc UnitWeight g) : Type 0 where
  pub target : arc.target ≡ 0
  pub wide : length (sets_of arc.class) ≡ (tiers_in frame).width
  pub every : (column : List Sym) → length column ≡ (tiers_in frame).width → has arc.class column ≡ true

-- there is one state, from which there is a move, and each move is on every column
pub record IsWholeState {g : Ghosts UnitWeight} (frame : Frame) (states : List (TableState UnitWeight g)) : Type 0 where
  pub one : length states ≡ 1
  pub some : (arc : TableArc UnitWeight g) × Contains (moves_at states 0) arc
  pub each : (s : ℕ) (arc : TableArc UnitWeight g) → Contains (moves_at states s) arc → IsWholeMove frame arc
