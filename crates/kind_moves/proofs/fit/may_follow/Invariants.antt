use Rattle.std.proofs.Common.{◌≡◌, ℕ, ◌<◌, true}
use Rattle.tier_core.specs.{Scan.fits, Timelines.symbol, Tiers.has_tier}
use Rattle.kind_moves.proofs.fit.may_follow.Given as goal

abbrev pub invariant-loop-tier : goal.invariant-loop-tier
invariant-loop-tier l = (t : ℕ) → t < l.tier → fits (has_tier l.opened t) (symbol l.column t) ≡ true
