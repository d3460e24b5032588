use Rattle.kind_orders.proofs.GroupSteps.{AreJoinedSoFar}
use Rattle.kind_orders.proofs.joined_arcs.joined_lines.Given as goal

abbrev pub invariant-loop-line : goal.invariant-loop-line
invariant-loop-line l = AreJoinedSoFar l.lines l.line-index l.arcs.items l.group.target l.group.classes.items
