use Rattle.answer_reader.specs.Lines.{end_line}
use Rattle.answer_reader.proofs.FirstLines.{takes_said}
use Rattle.answer_reader.proofs.state_loop.read_end_line.Goals as goal

pub returns : goal.returns
returns c = takes_said end_line (λ (x : Unit {0}). tt) c.args.lines.now c.next_line.new.self c.in_ok-line.line.now
    c.end_of.result c.on_line.result c.in_ok-line.ensures.line c.in_ok-line.ensures.number c.end_of.ensures
    c.on_line.ensures
