use Rattle.outside.proofs.Writing.{◌▹◌, cut, stop}
use Rattle.tableau.proofs.put.push_head.Goals as goal

pub returns-in_err-push_first : goal.returns-in_err-push_first
returns-in_err-push_first g c =
    stop c.from_residual.ensures.1 (cut _ (cut _ (rw c.requires at c.in_err-push_first.ensures)))

pub returns-in_err-push_names : goal.returns-in_err-push_names
returns-in_err-push_names g c =
    let pushed = (rw c.requires at c.in_ok-push_first.ensures)
    ▹ (rw c.deref.ensures.value at c.in_err-push_names.ensures) in
    stop c.from_residual-in_err-push_names.ensures.1 (cut _ pushed)

pub returns : goal.returns
returns g c =
    (rw c.requires at c.in_ok-push_first.ensures)
    ▹ (rw c.deref.ensures.value at c.in_ok-push_names.ensures) ▹ c.push.ensures
