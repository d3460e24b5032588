use Rattle.std.proofs.Common.{◌≡◌, map, take}
use Rattle.ranked_gen.specs.Left.{weight_number}
use Rattle.ranked_gen.proofs.staged.potentials_of.Given as goal

abbrev pub invariant-loop-weight : goal.invariant-loop-weight
invariant-loop-weight l = l.numbers.items ≡ map weight_number (take l.weight-index l.least)
