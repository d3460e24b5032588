use Rattle.std.proofs.lemmas.Result.{err_from_is_err_and}
use Rattle.answer_reader.proofs.{HeadSteps.{head_read, head_refused}, StageLoops.stage_limit}
use Rattle.answer_reader.proofs.head.read_head.Goals as goal

pub returns-in_err-example-clause-goes_on : goal.returns-in_err-example-clause-goes_on
returns-in_err-example-clause-goes_on c =
    let p = err_from_is_err_and c.from_residual-in_err-example.result c.from_residual-in_err-example.ensures.1 in
    rw (p.1, p.2) (head_refused c.args.shape.now c.args.lines.now c.read_header.new.lines
    c.read_timeline_line.new.lines c.read_counts_line.new.lines c.in_ok-read_header.field-0 c.in_ok-form.form
    c.in_ok-counts.counts.items
    c.in_ok-read_header.ensures (rw c.input_count.ensures at c.in_ok-form.ensures.takes)
    (rw (stage_limit c.args.shape.now c.len.result c.len.ensures) at c.in_ok-counts.ensures.takes)
    c.read_timeline_line-2.new.lines c.in_err-example.field-0.0 c.in_err-example.ensures.takes)

pub returns-clause-goes_on : goal.returns-clause-goes_on
returns-clause-goes_on c = head_read c.args.shape.now c.args.lines.now c.read_header.new.lines
    c.read_timeline_line.new.lines c.read_counts_line.new.lines c.in_ok-read_header.field-0 c.in_ok-form.form
    c.in_ok-counts.counts.items c.in_ok-read_header.ensures (rw c.input_count.ensures at c.in_ok-form.ensures.takes)
    (rw (stage_limit c.args.shape.now _ c.len.ensures) at c.in_ok-counts.ensures.takes) c.read_timeline_line-2.new.lines
    c.in_ok-example.example c.in_ok-example.ensures.takes
