-- Classes that are put at the end of a list.
use Rattle.std.specs.Prelude.{◌≡◌, ◌||◌, Bool, IsTrue, List, All}
use Rattle.tier_core.specs.declared.sym.Sym.{Sym}
use Rattle.tier_core.specs.declared.class.Class.{Class}
use Rattle.tier_core.specs.Filled.{is_filled}
use Rattle.symbol_class.specs.Held.{some_has}

-- none of them is empty
abbrev pub AreFilled : List Class → Type 0
AreFilled classes = All (λ class. IsTrue (is_filled class)) classes

-- Classes, of which none is empty, are put at the end of a list, and hold exactly the columns that pass.
pub record AddsColumns (old new : List Class) (test : List Sym → Bool) : Type 0 where
  pub filled : AreFilled old → AreFilled new
  pub held : (column : List Sym) → some_has new column ≡ (some_has old column || test column)
