use Rattle.std.proofs.Common.{◌+◌, length}
use Rattle.first_paths.specs.Counted.{unknown_count, IsSearched}
use Rattle.first_paths.proofs.lengths.backward_search.Given as goal

abbrev pub invariant-levels : goal.invariant-levels
invariant-levels l = IsSearched l.table.states.items l.left.items l.level.items l.n

abbrev pub decreases-levels : goal.decreases-levels
decreases-levels l = unknown_count l.left.items + length l.level.items
