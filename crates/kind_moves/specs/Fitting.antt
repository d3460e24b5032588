-- The columns of a class that fit a kind, in pieces.
use Rattle.std.specs.Prelude.{◌≡◌, ◌↔◌, ℕ, IsTrue, true, List, length}
use Rattle.tier_core.specs.declared.class.Class.{Class}
use Rattle.tier_core.specs.declared.kind.Kind.{Kind}
use Rattle.tier_core.specs.declared.sym.Sym.{Sym}
use Rattle.tier_core.specs.Classes.{sets_of, has}
use Rattle.tier_core.specs.Timelines.{has_edge}
use Rattle.symbol_class.specs.Held.{some_has, ArePieces}
use Rattle.symbol_class.specs.Parts.{IsAlike}
use Rattle.violation.specs.Moves.{input_of, next_kind}
use Rattle.kind_moves.specs.declared.frame.Frame.{Frame}
use Rattle.kind_moves.specs.Frames.{problem_in, tiers_in, kind_at_stage, FitsAt}

-- the pieces hold exactly the columns of a class that fit a kind
pub record AreFitting (frame : Frame) (stage : ℕ) (kind : Kind) (class : Class) (parts : List Class) : Type 0 where
  pub pieces : ArePieces (tiers_in frame).width parts
  pub columns : (column : List Sym) → IsTrue (some_has parts column)
      ↔ (IsTrue (has class column) × FitsAt frame stage kind column)

-- a class has all columns of its width
abbrev pub HasAll : Class → Type 0
HasAll class = (column : List Sym) → length column ≡ length (sets_of class) → has class column ≡ true

-- either all columns of a class read a column of the form, or none does
abbrev pub IsReadAlike : Frame → Class → Type 0
IsReadAlike frame class = IsAlike (λ column. has_edge (input_of (tiers_in frame) column)) class

-- all columns of a class lead from a kind to the same kind
abbrev pub IsMovedAlike : Frame → ℕ → Kind → Class → Type 0
IsMovedAlike frame stage kind class = IsAlike
    (next_kind (problem_in frame) stage (kind_at_stage frame stage kind)) class
