use Rattle.std.proofs.Common.{◌≤◌, length}
use Rattle.tier_core.specs.Classes.{sets_of}
use Rattle.symbol_class.proofs.SplitSteps.{IsSplitBelow}
use Rattle.symbol_class.proofs.parting.parted_by_all.Given as goal

abbrev pub invariant-loop-test : goal.invariant-loop-test
invariant-loop-test l = record {
  within : l.test-index ≤ length l.tests;
  so_far : IsSplitBelow (length (sets_of l.class)) l.class l.tests l.test-index l.inside.items l.outside.items;
}
