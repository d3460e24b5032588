use Rattle.std.proofs.Common.{◌≡◌, ◌-◌, length}
use Rattle.prune_best.specs.Names.{AreNumbered}
use Rattle.prune_best.proofs.SoFar.{SoFar}
use Rattle.prune_best.proofs.prune.tight.Given as goal

abbrev pub invariant-making : goal.invariant-making
invariant-making g l = record {
  same : length l.numbers.items ≡ length l.table.states.items;
  numbered : AreNumbered l.names.items l.numbers.items;
  so_far : SoFar l.table.states.items l.least l.names.items l.states.items;
}

abbrev pub decreases-making : goal.decreases-making
decreases-making g l = length l.numbers.items - length l.states.items
