use Rattle.std.proofs.Common.{◌≡◌, take}
use Rattle.tier_core.proofs.timeline.Timeline.copy.Given as goal

abbrev pub invariant-loop-column : goal.invariant-loop-column
invariant-loop-column l = l.copy ≡ take l.column-index l.self
