use Rattle.cert_check.proofs.NodeSteps.{right_node}
use Rattle.cert_check.proofs.node_check.check_node.Goals as goal

pub returns-clause-ok : goal.returns-clause-ok
returns-clause-ok c = right_node _ _ _ _ c.in_ok-check_final.ensures.ok c.in_ok-check_pieces.ensures.ok
