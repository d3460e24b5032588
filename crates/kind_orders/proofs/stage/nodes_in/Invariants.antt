use Rattle.std.proofs.Common.{◌≡◌, map, take}
use Rattle.kind_orders.specs.StageNodes.{node_numbered}
use Rattle.kind_orders.proofs.stage.nodes_in.Given as goal

abbrev pub invariant-loop-number : goal.invariant-loop-number
invariant-loop-number l = l.nodes.items ≡ map (node_numbered l.kinds l.potentials) (take l.number-index l.order)
