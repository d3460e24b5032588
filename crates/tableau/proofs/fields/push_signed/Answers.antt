use Rattle.outside.proofs.Writing.{◌▹◌, cut, pushes_as, stop}
use Rattle.tableau.proofs.fields.push_signed.Goals as goal

pub returns-in_err-push_decimal : goal.returns-in_err-push_decimal
returns-in_err-push_decimal g c = stop c.from_residual.ensures.1 (cut _ c.in_err-push_decimal.ensures)

pub returns : goal.returns
returns g c = c.in_ok-push_decimal.ensures ▹ (pushes_as c.sign.ensures c.push.ensures)
