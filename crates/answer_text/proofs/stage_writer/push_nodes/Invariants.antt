use Rattle.answer_text.specs.Text.{line, node_line}
use Rattle.outside.proofs.Writing.{PushesEach}
use Rattle.answer_text.proofs.stage_writer.push_nodes.Given as goal

abbrev pub invariant-loop-node : goal.invariant-loop-node
invariant-loop-node g l =
    PushesEach g.O.Sink l.fn.sink l.sink l.fn.out l.out
    (λ node. line (node_line l.free l.stretches node)) l.nodes l.node-index
