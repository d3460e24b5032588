-- Parts of classes: a test that decides all columns of a class alike.
use Rattle.std.specs.Prelude.{ℕ, Bool, not, ◌&&◌, IsTrue, ◌≡◌, List, All}
use Rattle.std.specs.List.{Contains}
use Rattle.tier_core.specs.declared.sym.Sym.{Sym}
use Rattle.tier_core.specs.declared.class.Class.{Class}
use Rattle.tier_core.specs.Classes.{has}
use Rattle.symbol_class.specs.declared.difference.Difference.{Difference}
use Rattle.symbol_class.specs.Held.{times_held, ArePieces, AddsClasses}

-- whether a column is in one class and not in another
abbrev pub differs : Difference → List Sym → Bool
differs test column = has test.within column && not (has test.without column)

-- a function has the same value for all columns of a class
abbrev pub IsAlike : {X : Type 0} → (List Sym → X) → Class → Type 0
IsAlike f class = (c d : List Sym) → IsTrue (has class c) → IsTrue (has class d) → f c ≡ f d

-- all columns of a class are in one class of a list
pub record IsPartOf (wholes : List Class) (part : Class) : Type 0 where
  pub whole : Class
  pub listed : Contains wholes whole
  pub within : (column : List Sym) → IsTrue (has part column) → IsTrue (has whole column)

-- Pieces are divided: the parts are pieces that hold the same columns, each of them is a part of
-- one piece, and the test decides all its columns alike.
pub record ArePartedBy {X : Type 0} (width : ℕ) (test : List Sym → X) (wholes parts : List Class) : Type 0 where
  pub pieces : ArePieces width parts
  pub held : (column : List Sym) → times_held parts column ≡ times_held wholes column
  pub within : All (IsPartOf wholes) parts
  pub alike : All (IsAlike test) parts

-- Classes that hold each column this many times are appended to a list, and a test decides all
-- columns of each class alike.
pub record AddsAlike {X : Type 0} (width : ℕ) (old new : List Class) (times : List Sym → ℕ)
    (test : List Sym → X) : Type 0 where
  pub adds : AddsClasses width old new times
  pub alike : All (IsAlike test) adds.added
