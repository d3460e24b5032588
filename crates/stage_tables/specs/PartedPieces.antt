-- Pieces of classes that are parted by what their columns cost under one more constraint.
use Rattle.std.specs.Prelude.{◌≡◌, ◌↔◌, ℕ, ◌<◌, ◌≤◌, List, ◌++◌, length, All, Contains, IsTrue}
use Rattle.tier_core.specs.declared.class.Class.{Class}
use Rattle.tier_core.specs.declared.kind.Kind.{Kind}
use Rattle.tier_core.specs.declared.sym.Sym.{Sym}
use Rattle.tier_core.specs.Classes.{sets_of, has}
use Rattle.tier_core.specs.Filled.{is_filled}
use Rattle.symbol_class.specs.Held.{some_has, times_held, once_if, ArePieces}
use Rattle.symbol_class.specs.Parts.{IsAlike}
use Rattle.kind_moves.specs.declared.piece.Piece.{Piece}
use Rattle.kind_moves.specs.Frames.{tiers_in, FitsAt}
use Rattle.kind_moves.specs.Pieces.{cost_under, piece_classes, IsPiece}
use Rattle.stage_tables.specs.declared.exploring.Exploring.{Exploring}

-- A part of a piece that goes on from a kind: it is not empty, its columns are among those of the
-- piece, and cost the same under a constraint.
pub record IsPartOfPiece (exploring : Exploring) (constraint : ℕ) (kind : Kind) (piece part : Piece) : Type 0 where
  pub within : (column : List Sym) → IsTrue (has part.class column) → IsTrue (has piece.class column)
  pub is : IsPiece exploring.frame.now exploring.stage exploring.stage kind part
  pub alike : IsAlike (cost_under exploring.frame.now exploring.stage constraint kind) part.class
  pub filled : IsTrue (is_filled part.class)
  pub wide : length (sets_of part.class) ≡ (tiers_in exploring.frame.now).width

-- parts that hold a piece's columns once are put behind others
pub record AddsParts (exploring : Exploring) (constraint : ℕ) (kind : Kind) (piece : Piece)
    (old new : List Piece) : Type 0 where
  pub added : List Piece
  pub new_is : new ≡ old ++ added
  pub held : (column : List Sym) → times_held (piece_classes added) column ≡ once_if (has piece.class column)
  pub good : All (IsPartOfPiece exploring constraint kind piece) added

-- a part of one of some pieces
pub record IsPartOfSome (exploring : Exploring) (constraint : ℕ) (kind : Kind) (pieces : List Piece)
    (part : Piece) : Type 0 where
  pub piece : Piece
  pub listed : Contains pieces piece
  pub is : IsPartOfPiece exploring constraint kind piece part

-- parts hold each column as often as the pieces, and each is a part of one of these
pub record ArePartedPieces (exploring : Exploring) (constraint : ℕ) (kind : Kind)
    (pieces parts : List Piece) : Type 0 where
  pub held : (column : List Sym) → times_held (piece_classes parts) column ≡ times_held (piece_classes pieces) column
  pub good : All (IsPartOfSome exploring constraint kind pieces) parts

-- Pieces of a class that go on from a kind, as far as constraints before number n are looked at.
pub record ArePiecesBefore (exploring : Exploring) (kind : Kind) (class : Class) (pieces : List Piece)
    (n : ℕ) : Type 0 where
  pub apart : ArePieces (tiers_in exploring.frame.now).width (piece_classes pieces)
  pub columns : (column : List Sym) → IsTrue (some_has (piece_classes pieces) column)
      ↔ (IsTrue (has class column) × FitsAt exploring.frame.now exploring.stage kind column)
  pub each : All (IsPiece exploring.frame.now exploring.stage exploring.stage kind) pieces
  pub alike : (r : ℕ) → exploring.first ≤ r → r < n
      → All (λ piece. IsAlike (cost_under exploring.frame.now exploring.stage r kind) piece.class) pieces
