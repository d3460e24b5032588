use Rattle.std.proofs.Common.{◌≡◌, take}
use Rattle.tier_core.specs.{Tiers.tiers_of, Timelines.project}
use Rattle.tier_core.proofs.projection.project.Given as goal

abbrev pub invariant-loop-column : goal.invariant-loop-column
invariant-loop-column l = l.kept ≡ project (tiers_of l.keep) (take l.column-index l.timeline)
