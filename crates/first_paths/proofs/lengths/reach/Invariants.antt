use Rattle.std.proofs.Common.{◌≤◌, length, take}
use Rattle.first_paths.specs.Counted.{IsSource, Reaches}
use Rattle.first_paths.proofs.lengths.reach.Given as goal

abbrev pub invariant-loop-incoming : goal.invariant-loop-incoming
invariant-loop-incoming l = record {
  inside : l.incoming-index ≤ length l.moves;
  reached : Reaches
      (IsSource
      (take l.incoming-index l.moves)) l.n l.initial.left.items l.left.items l.initial.next.items l.next.items;
}
