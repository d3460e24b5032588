use Rattle.kind_orders.proofs.Nodes.{are_nodes}
use Rattle.kind_orders.proofs.stage.stage_of.Goals as goal

pub returns-in-Ok : goal.returns-in-Ok
returns-in-Ok c = are_nodes c.args.kinds.now c.args.potentials.now c.args.order.now c.in-Ok.nodes.items
    c.requires.order c.in-Ok.ensures
