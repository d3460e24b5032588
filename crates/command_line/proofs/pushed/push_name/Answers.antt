use Rattle.outside.proofs.Writing.{◌▹◌, cut, stop}
use Rattle.command_line.proofs.pushed.push_name.Goals as goal

pub returns-in_err-push : goal.returns-in_err-push
returns-in_err-push g c = stop c.from_residual.ensures.1 (cut _ c.in_err-push.ensures)

pub returns : goal.returns
returns g c = c.in_ok-push.ensures ▹ c.push-2.ensures
