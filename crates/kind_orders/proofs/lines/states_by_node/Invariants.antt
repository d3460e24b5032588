use Rattle.kind_orders.proofs.ByNode.{AreStatesSoFar}
use Rattle.kind_orders.proofs.lines.states_by_node.Given as goal

abbrev pub invariant-loop-state : goal.invariant-loop-state
invariant-loop-state l = AreStatesSoFar l.nodes l.count l.state l.states.items
