use Rattle.std.proofs.Common.{◌≡◌, ◌≤◌, length, drop}
use Rattle.distances.specs.Settled.{relax_all}
use Rattle.distances.proofs.settle.relax.Given as goal

abbrev pub invariant-loop-incoming : goal.invariant-loop-incoming
invariant-loop-incoming g l = record {
  inside : l.incoming-index ≤ length l.moves;
  same : length l.least.items ≡ length l.initial.least.items;
  relaxed_is : relax_all g.W.Weight.meaning l.rest l.least.items (drop l.incoming-index l.moves)
      ≡ relax_all g.W.Weight.meaning l.rest l.initial.least.items l.moves;
}
