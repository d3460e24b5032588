use Rattle.std.proofs.Common.{◌≡◌, ℕ, ◌<◌, length, get_or}
use Rattle.tier_core.specs.{declared.tier.TierKind.TheVariants.Input, Sets.AreSets}
use Rattle.comprehend.specs.Tests.{still_set}
use Rattle.comprehend.proofs.tests_of.still_class.Given as goal

abbrev pub invariant-loop-tier : goal.invariant-loop-tier
invariant-loop-tier l = record {
  twelve : length l.sets ≡ 12;
  are_sets : AreSets l.sets;
  done : (t : ℕ) → t < l.tier → get_or l.sets t 0 ≡ still_set (get_or l.kinds t Input);
}
