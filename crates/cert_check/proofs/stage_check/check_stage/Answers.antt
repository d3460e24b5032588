use Rattle.cert_check.proofs.Orders.{ascends_by}
use Rattle.cert_check.proofs.stage_check.check_stage.Goals as goal

pub returns-clause-ascends : goal.returns-clause-ascends
returns-clause-ascends c = ascends_by c.args.subject.now _ c.in_ok-check_order.ensures.ok
