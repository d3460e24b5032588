-- Pieces of a class: all columns of a piece lead from a kind to the same kind, and cost the same.
use Rattle.std.specs.Prelude.{◌≡◌, ℕ, ◌-◌, ◌==◌, Bool, IsTrue, List, map, slice_index_or, if◌then◌else◌}
use Rattle.std.specs.List.{range_with_len}
use Rattle.tier_core.specs.declared.class.Class.{Class}
use Rattle.tier_core.specs.declared.kind.Kind.{Kind}
use Rattle.tier_core.specs.declared.sym.Sym.{Sym}
use Rattle.tier_core.specs.Classes.{has}
use Rattle.tier_core.specs.Scan.{opens}
use Rattle.tier_core.specs.Timelines.{symbol}
use Rattle.violation.specs.Moves.{move_costs}
use Rattle.kind_moves.specs.declared.frame.Frame.{Frame}
use Rattle.kind_moves.specs.declared.piece.Piece.{Piece}
use Rattle.kind_moves.specs.Frames.{problem_in, kind_at_stage, IsMove}

-- which of the first n tiers are open after a column
abbrev pub opened_by : ℕ → List Sym → List Bool
opened_by n column = map (λ t. opens (symbol column t)) (range_with_len 0 n)

-- what a column costs from a kind under a constraint, which is counted from 1; 0 if it is 0
abbrev pub cost_under : Frame → ℕ → ℕ → Kind → List Sym → ℕ
cost_under frame stage constraint kind column =
    if constraint == 0 then 0
    else slice_index_or (move_costs (problem_in frame) stage (kind_at_stage frame stage kind) column)
    (constraint - 1) 0

-- Each column of a piece leads to the piece's target and costs what the piece says.
pub record IsPiece (frame : Frame) (stage constraint : ℕ) (kind : Kind) (piece : Piece) : Type 0 where
  pub moves : (column : List Sym) → IsTrue (has piece.class column) → IsMove frame stage kind column piece.target
  pub costs : (column : List Sym) → IsTrue (has piece.class column)
      → piece.cost ≡ cost_under frame stage constraint kind column

-- the classes of pieces
abbrev pub piece_classes : List Piece → List Class
piece_classes pieces = map (λ piece. piece.class) pieces
