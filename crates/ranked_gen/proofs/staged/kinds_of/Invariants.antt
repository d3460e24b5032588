use Rattle.std.proofs.Common.{◌≡◌, map, take}
use Rattle.tier_core.specs.KindNumbers.{kind_numbered}
use Rattle.ranked_gen.proofs.staged.kinds_of.Given as goal

abbrev pub invariant-loop-number : goal.invariant-loop-number
invariant-loop-number l = l.found.items ≡ map (kind_numbered l.kinds) (take l.number-index l.numbers)
