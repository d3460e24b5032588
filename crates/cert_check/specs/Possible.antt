-- Whether a mask has all tiers of a constraint's left side.
use Rattle.std.specs.Prelude.{ℕ, Bool}
use Rattle.std.specs.List.{list_all}
use Rattle.tier_core.specs.declared.constraint.Constraint.{Constraint}
use Rattle.tier_core.specs.Tiers.{has_tier}

abbrev pub all_open_in : ℕ → Constraint → Bool
all_open_in mask c = list_all (λ e. has_tier mask e.tier) c.left
