use Rattle.std.proofs.Common.{◌≡◌, take}
use Rattle.tier_core.specs.Timelines.{squeeze}
use Rattle.tier_core.proofs.projection.squeeze.Given as goal

abbrev pub invariant-loop-column : goal.invariant-loop-column
invariant-loop-column l = l.kept ≡ squeeze (take l.column-index l.timeline)
