-- Kinds whose bits fit a shape.
use Rattle.std.specs.Prelude.{ℕ, ◌-◌, ◌^◌, ◌<◌, length, slice_index_or}
use Rattle.tier_core.specs.declared.kind.Kind.{Kind}
use Rattle.tier_core.specs.declared.shape.Shape.{Shape}
use Rattle.tier_core.specs.Shapes.{masked_count}
use Rattle.tier_core.specs.Kinds.{AreStretchesBelow, PrefixKind, prefix_kind}

-- how many tiers are free
abbrev pub free_count : Shape → ℕ
free_count shape = shape.width - masked_count shape.inputs

-- how many stretch implications a stage has
abbrev pub stretch_count : Shape → ℕ → ℕ
stretch_count shape stage = slice_index_or shape.phases.items stage 0

-- The stage is in the shape. No bit of `opened` is set from the number of free tiers on, and none
-- of `unmet` and `met` from the number of the stage's stretch implications on.
pub record FitsShape (shape : Shape) (stage : ℕ) (kind : Kind) : Type 0 where
  pub within : stage < length shape.phases.items
  pub opened : kind.opened < 2 ^ free_count shape
  pub stretches : AreStretchesBelow (stretch_count shape stage) kind

-- the kind that the bits encode at a stage of a shape
abbrev pub kind_in : Shape → ℕ → Kind → PrefixKind
kind_in shape stage kind = prefix_kind (free_count shape) (stretch_count shape stage) kind
