use Rattle.std.proofs.Common.{◌≡◌, map, take}
use Rattle.ranked_gen.specs.Once.{once_node}
use Rattle.ranked_gen.proofs.once.once_nodes.Given as goal

abbrev pub invariant-loop-number : goal.invariant-loop-number
invariant-loop-number l = l.nodes.items ≡ map (once_node l.kinds l.least) (take l.number-index l.order)
