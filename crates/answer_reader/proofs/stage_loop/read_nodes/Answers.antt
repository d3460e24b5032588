use Rattle.std.proofs.{Common.{◌-◌, ◌+◌, sym, subst, arith}, lemmas.Result.err_from_is_err_and}
use Rattle.answer_reader.proofs.StageLoops.{IsInStage, node_read, node_refused}
use Rattle.answer_reader.proofs.stage_loop.read_nodes.Goals as goal

pub returns-in_err-node-clause-goes_on : goal.returns-in_err-node-clause-goes_on
returns-in_err-node-clause-goes_on c =
    let p = err_from_is_err_and c.from_residual.result c.from_residual.ensures.1 in
    rw (p.1, p.2) (node_refused c.args.shape.now c.args.columns c.args.stages.now c.loop.nodes.items
    (c.args.count - (c.loop.counter + 1)) c.args.count (c.args.count - c.loop.counter)
    c.args.lines.now c.loop.lines c.read_node.new.lines c.in_err-node.field-0.0 (omega arith) c.loop.invariant
    (rw c.deref.ensures.value at c.in_err-node.ensures.takes))

pub loop-preserved : goal.loop-preserved
loop-preserved c =
    subst (IsInStage c.args.shape.now c.args.columns c.args.stages.now c.args.count c.args.lines.now
    c.read_node.new.lines (c.args.count - (c.loop.counter + 1))) (sym c.in_ok-push.ensures.items)
    (node_read c.args.shape.now c.args.columns c.args.stages.now c.loop.nodes.items
    (c.args.count - (c.loop.counter + 1)) c.args.count (c.args.count - c.loop.counter)
    c.args.lines.now c.loop.lines c.read_node.new.lines c.in_ok-node.node (omega arith) c.loop.invariant
    (rw c.deref.ensures.value at c.in_ok-node.ensures.takes) c.in_ok-node.ensures.within
    c.in_ok-node.ensures.shorter)
