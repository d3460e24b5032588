use Rattle.outside.proofs.Writing.{◌▹◌, cut, stop}
use Rattle.tableau.proofs.fields.push_name.Goals as goal

pub returns-in_err-push_margin : goal.returns-in_err-push_margin
returns-in_err-push_margin g c = stop c.from_residual.ensures.1 (cut _ c.in_err-push_margin.ensures)

pub returns : goal.returns
returns g c = c.in_ok-push_margin.ensures ▹ c.push.ensures
