use Rattle.std.proofs.Common.{map}
use Rattle.answer_reader.specs.Stages.{next_node}
use Rattle.answer_text.specs.Values.{node_value}
use Rattle.answer_reader.proofs.FirstLines.{takes_said}
use Rattle.answer_reader.proofs.stages.read_node.Goals as goal

pub returns-clause-takes : goal.returns-clause-takes
returns-clause-takes c = takes_said
    (next_node c.args.shape.now c.args.columns c.args.stage
    (map (node_value c.args.shape.now c.args.stage) c.args.nodes.now)) (node_value c.args.shape.now c.args.stage)
    c.args.lines.now c.next_line.new.self c.in_ok-line.line.now c.next_node.result c.on_line.result
    c.in_ok-line.ensures.line c.in_ok-line.ensures.number c.next_node.ensures.said c.on_line.ensures
