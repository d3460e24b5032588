use Rattle.outside.proofs.Writing.{◌▹◌, cut, stop}
use Rattle.comprehend.proofs.put.push_example_line.Goals as goal

pub returns-in_err-push : goal.returns-in_err-push
returns-in_err-push g c = stop c.from_residual.ensures.1 (cut _ c.in_err-push.ensures)

pub returns-in_err-push_timeline : goal.returns-in_err-push_timeline
returns-in_err-push_timeline g c = stop c.from_residual-in_err-push_timeline.ensures.1
    (cut _ (c.in_ok-push.ensures ▹ c.in_err-push_timeline.ensures))

pub returns : goal.returns
returns g c = c.in_ok-push.ensures ▹ c.in_ok-push_timeline.ensures ▹ c.push-2.ensures
