use Rattle.answer_reader.specs.{declared.answer_err.AnswerErr.TheVariants.At, Lines.counts_of, Seen.numbers_seen}
use Rattle.answer_reader.proofs.{CountWords.one_each, FirstLines.takes_said}
use Rattle.answer_reader.proofs.counts.read_counts_line.Goals as goal

pub returns-clause-takes : goal.returns-clause-takes
returns-clause-takes c =
    takes_said (counts_of c.args.constraints) numbers_seen c.args.lines.now c.next_line.new.self c.in_ok-line.line.now
    c.in_ok-said.said c.on_line.result c.in_ok-line.ensures.line c.in_ok-line.ensures.number
    c.in_ok-said.ensures.ok c.on_line.ensures

pub returns-clause-one_each : goal.returns-clause-one_each
returns-clause-one_each c = one_each _ c.in_ok-line.line.now _ _ _ c.in_ok-said.ensures.ok c.on_line.ensures
