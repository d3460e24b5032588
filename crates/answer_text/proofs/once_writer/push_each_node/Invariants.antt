use Rattle.answer_text.specs.{OnceText.{once_node_line, once_widths_of}, Text.line}
use Rattle.outside.proofs.Writing.{PushesEach}
use Rattle.answer_text.proofs.once_writer.push_each_node.Given as goal

abbrev pub invariant-loop-node : goal.invariant-loop-node
invariant-loop-node g l =
    PushesEach g.O.Sink l.fn.sink l.sink l.fn.out l.out
    (λ node. line (once_node_line (once_widths_of l.shape) node)) l.nodes l.node-index
