use Rattle.cert_check.specs.Subjects.{AreFirstNodesInOrder}
use Rattle.cert_check.proofs.order.check_order.Given as goal

abbrev pub invariant-loop-number : goal.invariant-loop-number
invariant-loop-number l = AreFirstNodesInOrder l.subject l.stage l.number
