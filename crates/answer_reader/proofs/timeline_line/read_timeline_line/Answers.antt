use Rattle.answer_reader.specs.{declared.answer_err.AnswerErr.TheVariants.At, Timelines.timeline_said}
use Rattle.answer_reader.proofs.{FirstLines.takes_said, Timelines.{said_by, read_within}}
use Rattle.answer_reader.proofs.timeline_line.read_timeline_line.Goals as goal

pub returns-clause-takes : goal.returns-clause-takes
returns-clause-takes c =
    takes_said (timeline_said c.args.word.now c.args.width c.args.limit) (λ T. T) c.args.lines.now
    c.next_line.new.self c.in_ok-line.line.now c.in_form.result c.on_line.result c.in_ok-line.ensures.line
    c.in_ok-line.ensures.number
    (said_by c.args.word.now c.args.width c.args.limit c.in_ok-line.line.now c.in_ok-read.read c.in_form.result
    c.in_ok-read.ensures.ok c.in_form.ensures) c.on_line.ensures

pub returns-clause-within : goal.returns-clause-within
returns-clause-within c =
    read_within c.args.word.now c.args.width c.args.limit c.in_ok-line.line.now c.in_form.result c.on_line.result
    (At c.args.lines.now.number)
    (said_by c.args.word.now c.args.width c.args.limit c.in_ok-line.line.now c.in_ok-read.read c.in_form.result
    c.in_ok-read.ensures.ok c.in_form.ensures) c.on_line.ensures
