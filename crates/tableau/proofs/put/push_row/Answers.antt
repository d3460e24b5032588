use Rattle.outside.proofs.Writing.{◌▹◌, cut, stop}
use Rattle.tableau.proofs.put.push_row.Goals as goal

pub returns-in_err-push_first : goal.returns-in_err-push_first
returns-in_err-push_first g c =
    stop c.from_residual.ensures.1 (cut _ (cut _ (rw (c.requires, c.row_mark.ensures) at c.in_err-push_first.ensures)))

pub returns-in_err-push_counts : goal.returns-in_err-push_counts
returns-in_err-push_counts g c =
    let pushed = (rw (c.requires, c.row_mark.ensures) at c.in_ok-push_first.ensures)
    ▹ (rw c.deref.ensures.value at c.in_err-push_counts.ensures) in
    stop c.from_residual-in_err-push_counts.ensures.1 (cut _ pushed)

pub returns : goal.returns
returns g c =
    (rw (c.requires, c.row_mark.ensures) at c.in_ok-push_first.ensures)
    ▹ (rw c.deref.ensures.value at c.in_ok-push_counts.ensures) ▹ c.push.ensures
