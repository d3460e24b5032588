use Rattle.std.proofs.Common.{◌≡◌, ◌<◌, length, subst, arith}
use Rattle.kind_orders.specs.AutomatonLines.{AreByNode}
use Rattle.kind_orders.proofs.ByNode.{one_state_more}
use Rattle.kind_orders.proofs.lines.states_by_node.Goals as goal

pub loop-state-preserved : goal.loop-state-preserved
loop-state-preserved c =
    let inside : c.loop-state.state < length c.args.nodes.now = omega
    (arith, c.loop-state-test.true, c.loop-state.auto.state-end) in
    one_state_more c.args.nodes.now c.args.count c.loop-state.state c.loop-state.states.items c.requires.once
    c.requires.below inside c.loop-state.invariant

pub returns-clause-by_node : goal.returns-clause-by_node
returns-clause-by_node c =
    let last : c.loop-state.state ≡ length c.args.nodes.now = omega
    (arith, c.loop-state-test.false, c.loop-state.auto.state-end) in
    subst (λ n. AreByNode c.args.nodes.now n c.loop-state.states.items) last c.loop-state.invariant.by_node
