use Rattle.outside.proofs.Writing.{◌▹◌, cut, stop}
use Rattle.verdict_text.proofs.fault.push_twice.Goals as goal

pub returns-in_err-push_numbered : goal.returns-in_err-push_numbered
returns-in_err-push_numbered g c = stop c.from_residual.ensures.1 (cut _ c.in_err-push_numbered.ensures)

pub returns : goal.returns
returns g c = c.in_ok-push_numbered.ensures ▹ c.push_column_after_space.ensures
