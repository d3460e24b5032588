use Rattle.std.proofs.Common.{ℕ}
use Rattle.answer_reader.specs.Lines.{stage_of}
use Rattle.answer_reader.proofs.FirstLines.{takes_said}
use Rattle.answer_reader.proofs.stages.read_stage_line.Goals as goal

pub returns-clause-takes : goal.returns-clause-takes
returns-clause-takes c = takes_said (stage_of c.args.stages c.args.next) (λ (n : ℕ). n) c.args.lines.now
    c.next_line.new.self c.in_ok-line.line.now c.stage_of.result c.on_line.result c.in_ok-line.ensures.line
    c.in_ok-line.ensures.number c.stage_of.ensures.said c.on_line.ensures
