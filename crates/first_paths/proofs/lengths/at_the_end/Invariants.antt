use Rattle.std.proofs.Common.{None, [], length, replicate}
use Rattle.first_paths.specs.Counted.{Reaches}
use Rattle.first_paths.proofs.TableSteps.{IsEndBelow}
use Rattle.first_paths.proofs.lengths.at_the_end.Given as goal

abbrev pub invariant-loop-state : goal.invariant-loop-state
invariant-loop-state l = Reaches (IsEndBelow l.table.states.items l.state) 0
    (replicate (length l.table.states.items) None) l.left.items [] l.level.items
