use Rattle.std.proofs.{Common.{◌≡◌, ◌<◌, None, Some, length, get_or, ◌∙◌, subst, arith}, lemmas.List.get_or_default}
use Rattle.arc_table.specs.States.{states_of}
use Rattle.kind_orders.proofs.ByNode.{AreLinesBelow, no_lines, skip_node, push_line, lines_of_all}
use Rattle.kind_orders.proofs.lines.all_lines.Goals as goal

pub loop-node-init : goal.loop-node-init
loop-node-init c = rw c.new-lines.ensures.items
    (no_lines (states_of c.args.kept.now) c.args.nodes.now c.args.states.now c.requires.count c.requires.by_node)

pub loop-node-preserved-in-None : goal.loop-node-preserved-in-None
loop-node-preserved-in-None c =
    let here : c.loop-node.node-index < length c.args.states.now = omega
    (arith, c.loop-node-test.true, c.loop-node.auto.node-index-end) in
    let none : get_or c.args.states.now c.loop-node.node-index None
    ≡ None = get_or_default c.args.states.now c.loop-node.node-index None _ here ∙ c.in-None.is in
    skip_node
    (states_of c.args.kept.now) c.args.nodes.now c.args.states.now c.requires.count c.requires.by_node
    c.loop-node.node-index c.loop-node.lines.items none c.loop-node.invariant

pub state_line-requires-clause-state : goal.state_line-requires-clause-state
state_line-requires-clause-state c =
    let here : c.loop-node.node-index < length c.args.states.now = omega
    (arith, c.loop-node-test.true, c.loop-node.auto.node-index-end) in
    let some : get_or c.args.states.now c.loop-node.node-index None
    ≡ Some c.in-Some.state = get_or_default c.args.states.now c.loop-node.node-index None _ here ∙ c.in-Some.is in
    let own = c.requires.by_node.back c.loop-node.node-index c.in-Some.state some in
    omega (arith, own.0, c.requires.count)

pub loop-node-preserved : goal.loop-node-preserved
loop-node-preserved c =
    let here : c.loop-node.node-index < length c.args.states.now = omega
    (arith, c.loop-node-test.true, c.loop-node.auto.node-index-end) in
    let some : get_or c.args.states.now c.loop-node.node-index None
    ≡ Some c.in-Some.state = get_or_default c.args.states.now c.loop-node.node-index None _ here ∙ c.in-Some.is in
    rw c.in_ok-push.ensures.items
    (push_line
    (states_of c.args.kept.now) c.args.nodes.now c.args.states.now c.requires.count c.requires.by_node
    c.loop-node.node-index c.in-Some.state c.loop-node.lines.items c.in_ok-line.line some
    c.in_ok-line.ensures c.loop-node.invariant)

pub returns : goal.returns
returns c =
    let last : c.loop-node.node-index ≡ length c.args.states.now = omega
    (arith, c.loop-node-test.false, c.loop-node.auto.node-index-end) in
    lines_of_all
    (states_of c.args.kept.now) c.args.nodes.now c.args.states.now c.requires.count c.requires.by_node
    c.loop-node.lines.items c.requires.below
    (subst (λ n. AreLinesBelow
    (states_of c.args.kept.now) c.args.nodes.now n c.loop-node.lines.items) last c.loop-node.invariant)
