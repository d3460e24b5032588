use Rattle.std.proofs.Common.{[], length, replicate, ◌*◌}
use Rattle.comprehend.specs.Searches.{no_distance, Reaches}
use Rattle.comprehend.proofs.Ends.{IsEndBelow}
use Rattle.comprehend.proofs.search.at_the_ends.Given as goal

abbrev pub invariant-loop-number : goal.invariant-loop-number
invariant-loop-number l = Reaches (IsEndBelow l.states l.tests l.number) 0
    (replicate (length l.states * length l.tests) no_distance) l.left.items [] l.level.items
