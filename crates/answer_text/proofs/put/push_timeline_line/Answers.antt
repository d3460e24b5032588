use Rattle.outside.proofs.Writing.{◌▹◌, cut, stop}
use Rattle.answer_text.proofs.put.push_timeline_line.Goals as goal

pub returns-in_err-push : goal.returns-in_err-push
returns-in_err-push g c = stop c.from_residual.ensures.1 (cut _ (cut _ c.in_err-push.ensures))

pub returns-in_err-push_timeline : goal.returns-in_err-push_timeline
returns-in_err-push_timeline g c =
    let pushed = c.in_ok-push.ensures ▹ c.in_err-push_timeline.ensures in
    stop c.from_residual-in_err-push_timeline.ensures.1 (cut _ pushed)

pub returns : goal.returns
returns g c = c.in_ok-push.ensures ▹ c.in_ok-push_timeline.ensures ▹ c.push-2.ensures
