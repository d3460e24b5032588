use Rattle.outside.proofs.Writing.{◌▹◌, cut, stop}
use Rattle.command_line.proofs.put.push_refused.Goals as goal

pub returns-in_err-push_worded : goal.returns-in_err-push_worded
returns-in_err-push_worded g c = stop c.from_residual.ensures.1 (cut _ c.in_err-push_worded.ensures)

pub returns : goal.returns
returns g c = c.in_ok-push_worded.ensures ▹ c.push_cause.ensures
