use Rattle.outside.proofs.Writing.{◌▹◌, cut, stop}
use Rattle.tableau.proofs.fields.push_left.Goals as goal

pub returns-in_err-push_timeline : goal.returns-in_err-push_timeline
returns-in_err-push_timeline g c = stop c.from_residual.ensures.1 (cut _ c.in_err-push_timeline.ensures)

pub returns : goal.returns
returns g c =
    c.in_ok-push_timeline.ensures ▹ (rw (c.saturating_sub.ensures, c.text_length.ensures) at c.push_spaces.ensures)
