use Rattle.arc_table.specs.States.{states_of}
use Rattle.kind_orders.proofs.ByNode.{AreLinesBelow}
use Rattle.kind_orders.proofs.lines.all_lines.Given as goal

abbrev pub invariant-loop-node : goal.invariant-loop-node
invariant-loop-node l = AreLinesBelow (states_of l.kept) l.nodes l.node-index l.lines.items
