-- Columns by the free tiers that they leave open, where no constraint is looked at.
use Rattle.std.specs.Prelude.{◌≡◌, ℕ, ◌<◌, ◌^◌, Bool, IsTrue, List, ◌++◌, length, map, All}
use Rattle.tier_core.specs.declared.class.Class.{Class}
use Rattle.tier_core.specs.declared.kind.Kind.{Kind}
use Rattle.tier_core.specs.declared.sym.Sym.{Sym}
use Rattle.tier_core.specs.Classes.{sets_of, has}
use Rattle.tier_core.specs.Filled.{is_filled}
use Rattle.tier_core.specs.Kinds.{open_tiers}
use Rattle.tier_core.specs.Scan.{opens}
use Rattle.tier_core.specs.Timelines.{symbol}
use Rattle.symbol_class.specs.Held.{times_held}
use Rattle.kind_moves.specs.declared.frame.Frame.{Frame}
use Rattle.kind_moves.specs.declared.piece.Piece.{Piece}
use Rattle.kind_moves.specs.Frames.{tiers_in}
use Rattle.kind_moves.specs.Pieces.{piece_classes}

-- which of some tiers are open after a column
abbrev pub opened_among : List ℕ → List Sym → List Bool
opened_among tiers column = map (λ t. opens (symbol column t)) tiers

-- the piece of a class that leads to a kind and costs nothing
abbrev pub led_to : Kind → Class → Piece
led_to target class = record { class = class; target = target; cost = 0 }

-- Pieces that lead to one kind are put behind others: their classes have one width, none of them is
-- empty, and this many of them hold each column.
pub record AddsLed (width : ℕ) (target : Kind) (old new : List Piece) (times : List Sym → ℕ) : Type 0 where
  pub classes : List Class
  pub new_is : new ≡ old ++ map (led_to target) classes
  pub one_width : All (λ class. length (sets_of class) ≡ width) classes
  pub filled : All (λ class. IsTrue (is_filled class)) classes
  pub held : (column : List Sym) → times_held classes column ≡ times column

-- A piece leads to the kind at a place where just those free tiers are open that each of its columns
-- leaves open. It has no phases, and the piece costs nothing.
pub record LeavesOpen (frame : Frame) (place : ℕ) (piece : Piece) : Type 0 where
  pub wide : length (sets_of piece.class) ≡ (tiers_in frame).width
  pub filled : IsTrue (is_filled piece.class)
  pub opened : (column : List Sym) → IsTrue (has piece.class column)
      → opened_among (tiers_in frame).free column ≡ open_tiers (length (tiers_in frame).free) piece.target.opened
  pub within : piece.target.opened < 2 ^ length (tiers_in frame).free
  pub at_place : piece.target.place ≡ place
  pub unmet : piece.target.unmet ≡ 0
  pub met : piece.target.met ≡ 0
  pub cost : piece.cost ≡ 0

-- Pieces by the free tiers that they leave open are put behind others, and this many of them hold
-- each column.
pub record AddsLeaving (frame : Frame) (place : ℕ) (old new : List Piece) (times : List Sym → ℕ) : Type 0 where
  pub added : List Piece
  pub new_is : new ≡ old ++ added
  pub each : All (LeavesOpen frame place) added
  pub held : (column : List Sym) → times_held (piece_classes added) column ≡ times column
