-- Phases by two masks: of the stretch implications that are unmet, and of those that are met.
use Rattle.std.specs.Prelude.{ℕ, List, map}
use Rattle.std.specs.List.{range_with_len}
use Rattle.tier_core.specs.Kinds.{Phase, phase_by_bits}
use Rattle.tier_core.specs.Tiers.{has_tier}

-- the phase of stretch implication i, given the masks of those that are unmet and of those that are met
abbrev pub told_at : ℕ → ℕ → ℕ → Phase
told_at unmets mets i = phase_by_bits (has_tier unmets i) (has_tier mets i)

-- the phases of the first n stretch implications
abbrev pub phases_by : ℕ → ℕ → ℕ → List Phase
phases_by n unmets mets = map (told_at unmets mets) (range_with_len 0 n)
