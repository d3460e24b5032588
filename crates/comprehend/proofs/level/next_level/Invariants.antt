use Rattle.std.proofs.Common.{◌≤◌, [], length, take}
use Rattle.first_paths.specs.Search.{IsPredecessor}
use Rattle.comprehend.specs.{Searches.Reaches, Steps.Goes}
use Rattle.comprehend.proofs.level.next_level.Given as goal

abbrev pub invariant-loop-to : goal.invariant-loop-to
invariant-loop-to l = record {
  inside : l.to-index ≤ length l.level;
  reached : Reaches (IsPredecessor (Goes l.states l.tests)
      (take l.to-index l.level)) l.n l.initial.left.items l.left.items [] l.next.items;
}
