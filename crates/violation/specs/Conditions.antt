-- What functions and lemmas require of tiers and of types of events.
use Rattle.std.specs.Prelude.{ℕ, ◌≢◌, ◌<◌, ◌⊎◌, List, [], ◌∷◌, length, All, Contains}
use Rattle.std.specs.List.{AllByRecursion}
use Rattle.tier_core.specs.declared.sym.Sym.{Sym}
use Rattle.tier_core.specs.declared.event.Event.{Event}
use Rattle.tier_core.specs.declared.constraint.Constraint.{Constraint}
use Rattle.tier_core.specs.Timelines.{IsWellFormed}
use Rattle.tier_core.specs.Tiers.{Tiers}

-- each tier of the types is below the width
abbrev pub AreTiersBelow : ℕ → List Event → Type 0
AreTiersBelow width types = AllByRecursion (λ e. e.tier < width) types

-- a constraint is over tiers below the width, and its left side has a type
pub record IsOverTiers (width : ℕ) (c : Constraint) : Type 0 where
  pub left_below : AreTiersBelow width c.left
  pub right_below : AreTiersBelow width c.right
  pub some_left : 0 < length c.left

-- a constraint with these sides may be counted on T: T is well formed over all its tiers
pub record IsCountable (left right : List Event) (T : List (List Sym)) : Type 0 where
  pub width : ℕ
  pub well_formed : IsWellFormed width T
  pub left_below : AreTiersBelow width left
  pub right_below : AreTiersBelow width right
  pub some_left : 0 < length left

-- each column has a symbol for each type
abbrev pub AreInColumn : List Event → List Sym → Type 0
AreInColumn types column = All (λ e. e.tier < length column) types

-- no tier occurs twice in a list
abbrev pub AreDistinct : List ℕ → Type 0
AreDistinct [] = Unit {0}
AreDistinct (t ∷ ts) = AllByRecursion (λ s. t ≢ s) ts × AreDistinct ts

-- Each tier is an input tier or a free one, and not both.
pub record AreSplit (tiers : Tiers) : Type 0 where
  pub each : (t : ℕ) → t < tiers.width → Contains tiers.input t ⊎ Contains tiers.free t
  pub apart : (t : ℕ) → Contains tiers.input t → Contains tiers.free t → ⊥
  pub inputs_below : AllByRecursion (λ t. t < tiers.width) tiers.input
  pub free_below : AllByRecursion (λ t. t < tiers.width) tiers.free
  pub distinct : AreDistinct tiers.input
