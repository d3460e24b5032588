-- Kinds that are found, and their order.
use Rattle.std.specs.Prelude.{ℕ, ◌≢◌, List, map, length, All, AllPairs}
use Rattle.std.specs.List.Sorted.{IsStrictlySortedBy}
use Rattle.tier_core.specs.declared.kind.Kind.{Kind}
use Rattle.tier_core.specs.declared.shape.Shape.{Shape}
use Rattle.tier_core.specs.Kinds.{PrefixKind, kind_order}
use Rattle.tier_core.specs.KindShapes.{FitsShape, kind_in}
use Rattle.tier_core.specs.KindNumbers.{kind_numbered}
use Rattle.kind_orders.specs.Orderings.{IsOrdering}

-- Kinds that are found for a stage: their bits fit the shape there, and no two mean the same.
pub record AreDistinctKinds (shape : Shape) (stage : ℕ) (kinds : List Kind) : Type 0 where
  pub fit : All (FitsShape shape stage) kinds
  pub differ : AllPairs (λ a b. kind_in shape stage a ≢ kind_in shape stage b) kinds

-- what a kind means, by its number
abbrev pub prefix_kind_at : Shape → ℕ → List Kind → ℕ → PrefixKind
prefix_kind_at shape stage kinds number = kind_in shape stage (kind_numbered kinds number)

-- the numbers of all kinds, so that the kinds ascend strictly when they are taken in this order
pub record IsKindOrder (shape : Shape) (stage : ℕ) (kinds : List Kind) (order : List ℕ) : Type 0 where
  pub numbers : IsOrdering (length kinds) order
  pub ascending : IsStrictlySortedBy kind_order (map (prefix_kind_at shape stage kinds) order)
