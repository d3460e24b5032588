-- Classes by which columns are tested.
use Rattle.std.specs.Prelude.{ℕ, ◌≡◌, List, ◌++◌, length, All}
use Rattle.tier_core.specs.declared.sym.Sym.{Sym}
use Rattle.tier_core.specs.declared.class.Class.{Class}
use Rattle.tier_core.specs.Classes.{sets_of, has}

-- each test holds both columns or neither
abbrev pub AgreeOn : List Class → List Sym → List Sym → Type 0
AgreeOn tests c d = All (λ test. has test c ≡ has test d) tests

-- Tests of a width are put at the end of a list, and columns of that width on which they agree are alike.
pub record AddsTests (width : ℕ) (old new : List Class) (alike : List Sym → List Sym → Type 0) : Type 0 where
  pub added : List Class
  pub new_is : new ≡ old ++ added
  pub one_width : All (λ test. length (sets_of test) ≡ width) added
  pub told : (c d : List Sym) → length c ≡ width → length d ≡ width → AgreeOn added c d → alike c d
