-- A kept table whose moves are parted by what their columns cost, and by nothing else.
use Rattle.std.specs.Prelude.{◌≡◌, ℕ, ◌<◌, List, ◌++◌, length, All, Contains, IsTrue}
use Rattle.weight_law.specs.declared.Weight.{Ghosts}
use Rattle.weight_law.specs.declared.count.Count.{Count}
use Rattle.weight_law.specs.declared.unit_weight.UnitWeight.{UnitWeight}
use Rattle.tier_core.specs.declared.class.Class.{Class}
use Rattle.tier_core.specs.declared.kind.Kind.{Kind}
use Rattle.tier_core.specs.declared.sym.Sym.{Sym}
use Rattle.tier_core.specs.Classes.{sets_of, has}
use Rattle.tier_core.specs.Filled.{is_filled}
use Rattle.symbol_class.specs.Held.{times_held}
use Rattle.arc_table.specs.declared.arc.TableArc.{TableArc}
use Rattle.arc_table.specs.declared.state.TableState.{TableState}
use Rattle.arc_table.specs.Moves.{moves_at, accepting_at}
use Rattle.kind_moves.specs.declared.frame.Frame.{Frame}
use Rattle.kind_moves.specs.Frames.{problem_in}
use Rattle.kind_tables.specs.StageTables.{name_of, cost_of}
use Rattle.stage_tables.specs.Explored.{names_at}
use Rattle.arc_table.specs.MoveClasses.{move_classes}

-- what a column costs under the constraint of a stage from the kind that names a state
abbrev pub cost_from : Frame → ℕ → List Kind → ℕ → List Sym → ℕ
cost_from frame stage kinds s column = cost_of (problem_in frame) stage (name_of (names_at frame stage kinds) s) column

-- The new move b is a part of the kept move a: it leads to the same state, its columns are among those
-- of a, and it weighs what each of them costs.
pub record IsWeighedPart {g : Ghosts UnitWeight} {h : Ghosts Count} (cost : List Sym → ℕ) (a : TableArc UnitWeight g)
    (b : TableArc Count h) : Type 0 where
  pub same_target : b.target ≡ a.target
  pub within : (column : List Sym) → IsTrue (has b.class column) → IsTrue (has a.class column)
  pub weighs : (column : List Sym) → IsTrue (has b.class column) → b.weight.0 ≡ cost column
  pub filled : IsTrue (is_filled b.class)
  pub same_width : length (sets_of b.class) ≡ length (sets_of a.class)

-- it is a part of one of some kept moves
pub record IsWeighedFrom {g : Ghosts UnitWeight} {h : Ghosts Count} (cost : List Sym → ℕ)
    (arcs : List (TableArc UnitWeight g)) (b : TableArc Count h) : Type 0 where
  pub arc : TableArc UnitWeight g
  pub listed : Contains arcs arc
  pub is : IsWeighedPart cost arc b

-- Parts of a kept move are put at the end of other moves, and this many of them hold each column.
pub record AddsWeighed {g : Ghosts UnitWeight} {h : Ghosts Count} (cost : List Sym → ℕ) (arc : TableArc UnitWeight g)
    (times : List Sym → ℕ) (old new : List (TableArc Count h)) : Type 0 where
  pub added : List (TableArc Count h)
  pub new_is : new ≡ old ++ added
  pub each : All (IsWeighedPart cost arc) added
  pub held : (column : List Sym) → times_held (move_classes added) column ≡ times column

-- The new moves are the kept ones in parts, and hold each column as often as these do.
pub record AreWeighedMoves {g : Ghosts UnitWeight} {h : Ghosts Count} (cost : List Sym → ℕ)
    (arcs : List (TableArc UnitWeight g)) (moves : List (TableArc Count h)) : Type 0 where
  pub each : All (IsWeighedFrom cost arcs) moves
  pub held : (column : List Sym) → times_held (move_classes moves) column ≡ times_held (move_classes arcs) column

-- The new states are the kept ones, so many of the first ones: each accepts where the kept one does, and
-- its moves are those of the kept one in parts.
pub record AreWeighedStates {g : Ghosts UnitWeight} {h : Ghosts Count} (cost : ℕ → List Sym → ℕ)
    (kept : List (TableState UnitWeight g)) (states : List (TableState Count h)) (n : ℕ) : Type 0 where
  pub count : length states ≡ n
  pub ends : (s : ℕ) → s < n → accepting_at states s ≡ accepting_at kept s
  pub moves : (s : ℕ) → s < n → AreWeighedMoves (cost s) (moves_at kept s) (moves_at states s)

-- Moves on some classes are put at the end of others: each leads to one state, and weighs so much.
pub record AddsMoves {h : Ghosts Count} (target weight : ℕ) (classes : List Class)
    (old new : List (TableArc Count h)) : Type 0 where
  pub added : List (TableArc Count h)
  pub new_is : new ≡ old ++ added
  pub classes_are : move_classes added ≡ classes
  pub targets : All (λ arc. arc.target ≡ target) added
  pub weights : All (λ arc. arc.weight.0 ≡ weight) added
