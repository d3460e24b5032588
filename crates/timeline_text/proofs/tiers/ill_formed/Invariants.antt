use Rattle.std.proofs.Common.{ℕ, ◌<◌}
use Rattle.tier_core.specs.{Words.IsWellFormedWord, Timelines.tier_word}
use Rattle.timeline_text.proofs.tiers.ill_formed.Given as goal

-- the tiers so far are well formed
abbrev pub invariant-loop-tier : goal.invariant-loop-tier
invariant-loop-tier l = (t : ℕ) → t < l.tier → IsWellFormedWord (tier_word l.timeline t)
