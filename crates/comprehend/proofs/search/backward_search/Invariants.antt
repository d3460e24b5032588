use Rattle.std.proofs.Common.{◌+◌, ◌*◌, length}
use Rattle.comprehend.specs.{Searches.{unknown_count, IsSearched}, Steps.{Goes, IsEndCell}}
use Rattle.comprehend.proofs.search.backward_search.Given as goal

abbrev pub invariant-levels : goal.invariant-levels
invariant-levels l = IsSearched (Goes l.states l.tests) (IsEndCell l.states l.tests)
    (length l.states * length l.tests) l.left.items l.level.items l.n

abbrev pub decreases-levels : goal.decreases-levels
decreases-levels l = unknown_count l.left.items + length l.level.items
