use Rattle.std.proofs.Common.{◌≡◌, ◌≤◌, ◌++◌, length, drop, take}
use Rattle.tier_core.specs.{Classes.sets_of, Sets.AreSets}
use Rattle.comprehend.specs.Tests.{heard_sets}
use Rattle.comprehend.proofs.tests_of.heard_class.Given as goal

abbrev pub invariant-loop-tier : goal.invariant-loop-tier
invariant-loop-tier l = record {
  twelve : length l.sets ≡ 12;
  are_sets : AreSets l.sets;
  few : l.before ≤ l.tier;
  done : take l.tier l.sets ++ heard_sets (drop l.tier l.kinds) (sets_of l.own) l.before
      ≡ heard_sets l.kinds (sets_of l.own) 0;
}
