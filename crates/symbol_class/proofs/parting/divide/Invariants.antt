use Rattle.std.proofs.Common.{◌≤◌, length}
use Rattle.tier_core.specs.Classes.{sets_of}
use Rattle.symbol_class.proofs.SplitSteps.{IsPartedBelow}
use Rattle.symbol_class.proofs.parting.divide.Given as goal

abbrev pub invariant-loop-class : goal.invariant-loop-class
invariant-loop-class l = record {
  within : l.class-index ≤ length l.classes;
  so_far : IsPartedBelow
      (length (sets_of l.test)) l.test l.classes l.class-index l.fn.inside.items l.inside.items l.outside.items;
}
