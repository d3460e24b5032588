-- Lists of classes, by the columns that their classes hold.
use Rattle.std.specs.Prelude.{◌≡◌, ℕ, Bool, IsTrue, List, [], ◌∷◌, ◌++◌, length, All, AllPairs, if◌then◌else◌}
use Rattle.std.specs.List.{list_any, count_by}
use Rattle.tier_core.specs.declared.sym.Sym.{Sym}
use Rattle.tier_core.specs.declared.class.Class.{Class}
use Rattle.tier_core.specs.Classes.{sets_of, has, AreDisjoint}
use Rattle.tier_core.specs.Filled.{is_filled}

-- whether some class of a list holds a column
abbrev pub some_has : List Class → List Sym → Bool
some_has classes column = list_any (λ class. has class column) classes

-- how many classes of a list hold a column
abbrev pub times_held : List Class → List Sym → ℕ
times_held classes column = count_by (λ class. has class column) classes

-- 1 if it is so, and 0 otherwise
abbrev pub once_if : Bool → ℕ
once_if b = if b then 1 else 0

-- the width of the classes of a list that have one width: that of the first, or 0 if there is none
abbrev pub width_of : List Class → ℕ
width_of [] = 0
width_of (class ∷ classes) = length (sets_of class)

-- Pieces of one width: classes of that width, none of them empty, and no column in two.
pub record ArePieces (width : ℕ) (classes : List Class) : Type 0 where
  pub one_width : All (λ class. length (sets_of class) ≡ width) classes
  pub filled : All (λ class. IsTrue (is_filled class)) classes
  pub apart : AllPairs AreDisjoint classes

-- Classes of one width, none of them empty, are appended to a list, and this many of them hold each
-- column.
pub record AddsClasses (width : ℕ) (old new : List Class) (times : List Sym → ℕ) : Type 0 where
  pub added : List Class
  pub new_is : new ≡ old ++ added
  pub one_width : All (λ class. length (sets_of class) ≡ width) added
  pub filled : All (λ class. IsTrue (is_filled class)) added
  pub held : (column : List Sym) → times_held added column ≡ times column
