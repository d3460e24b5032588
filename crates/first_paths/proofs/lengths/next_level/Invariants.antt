use Rattle.std.proofs.Common.{◌≤◌, [], length, take}
use Rattle.first_paths.specs.Counted.{IsBefore, Reaches}
use Rattle.first_paths.proofs.lengths.next_level.Given as goal

abbrev pub invariant-loop-state : goal.invariant-loop-state
invariant-loop-state l = record {
  inside : l.state-index ≤ length l.level;
  reached : Reaches (IsBefore l.incoming
      (take l.state-index l.level)) l.n l.initial.left.items l.left.items [] l.next.items;
}
