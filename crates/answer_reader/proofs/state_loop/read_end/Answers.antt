use Rattle.answer_reader.proofs.StateLoops.{end_whole}
use Rattle.answer_reader.proofs.state_loop.read_end.Goals as goal

pub returns : goal.returns
returns c = λ width nodes states. end_whole width nodes states c.args.lines.now c.read_end_line.new.lines
    c.in_ok-read_end_line.field-0 c.nothing_left.result c.in_ok-read_end_line.ensures c.nothing_left.ensures
