use Rattle.answer_text.proofs.Lines.{shown_text_is}
use Rattle.outside.proofs.Writing.{◌▹◌, cut, pushes_as, stop}
use Rattle.answer_text.proofs.parts.push_shown_lines.Goals as goal

pub returns-in_err-push_counts_line : goal.returns-in_err-push_counts_line
returns-in_err-push_counts_line g c =
    let pushed = rw c.deref.ensures.value at c.in_err-push_counts_line.ensures in
    stop c.from_residual.ensures.1 (pushes_as (shown_text_is c.args.answer.now) (cut _ pushed))

pub returns : goal.returns
returns g c =
    let pushed = (rw c.deref.ensures.value at c.in_ok-push_counts_line.ensures) ▹ c.push_timeline_line.ensures in
    pushes_as (shown_text_is c.args.answer.now) pushed
