use Rattle.outside.proofs.Writing.{◌▹◌, cut, stop}
use Rattle.tableau.proofs.fields.push_count.Goals as goal

pub returns-in_err-push_margin : goal.returns-in_err-push_margin
returns-in_err-push_margin g c =
    stop c.from_residual.ensures.1 (cut _ (rw c.count_length.ensures at c.in_err-push_margin.ensures))

pub returns : goal.returns
returns g c = (rw c.count_length.ensures at c.in_ok-push_margin.ensures) ▹ c.push_signed.ensures
