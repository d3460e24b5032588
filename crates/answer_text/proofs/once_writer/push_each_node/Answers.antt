use Rattle.std.proofs.Common.{sym}
use Rattle.answer_text.specs.OnceText.{once_node_line, once_widths_of}
use Rattle.answer_text.proofs.Lines.{lines_of_map}
use Rattle.outside.proofs.Writing.{each_end, each_none, each_stop, each_turn, pushes_as, stop}
use Rattle.answer_text.proofs.once_writer.push_each_node.Goals as goal

pub loop-node-init : goal.loop-node-init
loop-node-init g c = each_none c.args.sink.now c.args.out.now _ c.args.nodes.now

pub loop-node-preserved : goal.loop-node-preserved
loop-node-preserved g c =
    each_turn _ c.loop-node-test.true c.node-item.is c.loop-node.invariant c.in_ok-push_once_node.ensures

pub returns-in_err-push_once_node : goal.returns-in_err-push_once_node
returns-in_err-push_once_node g c =
    stop c.from_residual.ensures.1
    (pushes_as (sym (lines_of_map (once_node_line (once_widths_of c.args.shape.now)) c.args.nodes.now))
    (each_stop _ c.loop-node-test.true c.node-item.is c.loop-node.invariant c.in_err-push_once_node.ensures))

pub returns : goal.returns
returns g c =
    pushes_as (sym (lines_of_map (once_node_line (once_widths_of c.args.shape.now)) c.args.nodes.now))
    (each_end c.loop-node-test.false c.loop-node.invariant)
