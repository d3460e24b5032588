use Rattle.answer_text.proofs.OnceLines.{once_head}
use Rattle.outside.proofs.Writing.{◌▹◌, cut, pushes_as, stop}
use Rattle.answer_text.proofs.once_writer.push_once_head.Goals as goal

pub returns-in_err-push : goal.returns-in_err-push
returns-in_err-push g c =
    stop c.from_residual.ensures.1 (pushes_as (once_head c.args.answer.now) (cut _ c.in_err-push.ensures))

pub returns-in_err-push_timeline_line : goal.returns-in_err-push_timeline_line
returns-in_err-push_timeline_line g c =
    let pushed = c.in_ok-push.ensures ▹ c.in_err-push_timeline_line.ensures in
    stop c.from_residual-in_err-push_timeline_line.ensures.1
    (pushes_as (once_head c.args.answer.now) (cut _ (cut _ pushed)))

pub returns-in_err-push_counts_line : goal.returns-in_err-push_counts_line
returns-in_err-push_counts_line g c =
    let pushed = c.in_ok-push.ensures ▹ c.in_ok-push_timeline_line.ensures
    ▹ (rw c.deref.ensures.value at c.in_err-push_counts_line.ensures) in
    stop c.from_residual-in_err-push_counts_line.ensures.1 (pushes_as (once_head c.args.answer.now) (cut _ pushed))

pub returns : goal.returns
returns g c =
    let pushed = c.in_ok-push.ensures ▹ c.in_ok-push_timeline_line.ensures
    ▹ (rw c.deref.ensures.value at c.in_ok-push_counts_line.ensures) ▹ c.push_timeline_line-2.ensures in
    pushes_as (once_head c.args.answer.now) pushed
