-- The moves of a kind that are kept, by pieces: columns that lead to one kind and cost the same.
use Rattle.std.specs.Prelude.{ℕ, ◌≡◌, ◌≤◌, ◌↔◌, IsTrue, List, map, All, Contains, Some, slice_get}
use Rattle.tier_core.specs.declared.sym.Sym.{Sym}
use Rattle.tier_core.specs.declared.class.Class.{Class}
use Rattle.tier_core.specs.Classes.{has}
use Rattle.tier_core.specs.Kinds.{PrefixKind}
use Rattle.symbol_class.specs.Held.{some_has, AddsClasses, ArePieces}
use Rattle.violation.specs.Moves.{next_kind, cost_of}
use Rattle.violation.specs.Problems.{Problem}
use Rattle.answer_text.specs.declared.stage.Stage.{Stage}
use Rattle.answer_text.specs.Certified.{IsKeptBelow}
use Rattle.answer_text.specs.Right.{nodes_at, kinds_at}
use Rattle.cert_check.specs.declared.kept_piece.KeptPiece.{KeptPiece}
use Rattle.cert_check.specs.declared.kept_piece.MoveTarget.{MoveTarget}
use Rattle.cert_check.specs.declared.kept_piece.MoveTarget.TheVariants.{Node, Unlisted}
use Rattle.cert_check.specs.Faults.{TellsKind}

-- the classes of pieces
abbrev pub kept_classes : List KeptPiece → List Class
kept_classes pieces = map (λ piece. piece.class) pieces

-- the kinds of a stage
abbrev pub kinds_of : Problem → List Stage → ℕ → List PrefixKind
kinds_of problem stages stage = kinds_at problem stage (nodes_at stages stage)

-- A move that leads to a kind has this target: the number of the node that tells the kind, or the kind's
-- bits, and no node tells it.
abbrev pub IsTargetOf : Problem → List Stage → ℕ → MoveTarget → PrefixKind → Type 0
IsTargetOf problem stages stage (Node n) k = slice_get (kinds_of problem stages stage) n ≡ Some k
IsTargetOf problem stages stage (Unlisted kind) k = TellsKind problem stage kind k
    × (Contains (kinds_of problem stages stage) k → ⊥)

-- Under the constraints of a stage each column of a piece leads from a kind to its target, and under
-- the last of them it costs what the piece costs.
pub record IsKeptPiece (problem : Problem) (stages : List Stage) (stage : ℕ) (k : PrefixKind) (piece : KeptPiece)
    : Type 0 where
  pub leads : (column : List Sym) → IsTrue (has piece.class column)
      → IsTargetOf problem stages stage piece.target (next_kind problem stage k column)
  pub costs : (column : List Sym) → IsTrue (has piece.class column) → cost_of problem stage k column ≡ piece.cost
  pub few : piece.cost ≤ 1

-- Pieces of the kept moves of a kind are put at the end of a list, none of them empty, and this many of
-- them hold each column.
pub record AddsPieces (problem : Problem) (stages : List Stage) (stage : ℕ) (k : PrefixKind) (old new : List KeptPiece)
    (times : List Sym → ℕ) : Type 0 where
  pub classes : AddsClasses problem.tiers.width (kept_classes old) (kept_classes new) times
  pub each : All (IsKeptPiece problem stages stage k) old → All (IsKeptPiece problem stages stage k) new

-- Pieces hold exactly the columns on which the move of a kind of a stage is kept there, each in one piece.
pub record AreKeptPieces (problem : Problem) (stages : List Stage) (stage : ℕ) (k : PrefixKind)
    (kept : List KeptPiece) : Type 0 where
  pub pieces : ArePieces problem.tiers.width (kept_classes kept)
  pub columns : (column : List Sym) → IsTrue (some_has (kept_classes kept) column)
      ↔ IsKeptBelow problem stages stage k column
  pub each : All (IsKeptPiece problem stages stage k) kept
