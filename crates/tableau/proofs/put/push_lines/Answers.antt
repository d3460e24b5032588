use Rattle.outside.proofs.Writing.{◌▹◌, cut, stop}
use Rattle.tableau.proofs.put.push_lines.Goals as goal

pub returns-in_err-push_head : goal.returns-in_err-push_head
returns-in_err-push_head g c = stop c.from_residual.ensures.1 (cut _ c.in_err-push_head.ensures)

pub returns : goal.returns
returns g c = c.in_ok-push_head.ensures ▹ (rw c.deref.ensures.value at c.push_rows.ensures)
