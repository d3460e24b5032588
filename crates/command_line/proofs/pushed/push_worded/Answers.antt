use Rattle.outside.proofs.Writing.{◌▹◌, cut, stop}
use Rattle.command_line.proofs.pushed.push_worded.Goals as goal

pub returns-in_err-push_number : goal.returns-in_err-push_number
returns-in_err-push_number g c = stop c.from_residual.ensures.1 (cut _ c.in_err-push_number.ensures)

pub returns : goal.returns
returns g c = c.in_ok-push_number.ensures ▹ c.push.ensures
