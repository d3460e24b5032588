use Rattle.outside.proofs.Writing.{◌▹◌, cut, stop}
use Rattle.answer_text.proofs.put.push_counts_line.Goals as goal

pub returns-in_err-push : goal.returns-in_err-push
returns-in_err-push g c = stop c.from_residual.ensures.1 (cut _ c.in_err-push.ensures)

pub returns-in_err-push_numbers : goal.returns-in_err-push_numbers
returns-in_err-push_numbers g c =
    stop c.from_residual-in_err-push_numbers.ensures.1 (cut _ (c.in_ok-push.ensures ▹ c.in_err-push_numbers.ensures))

pub returns : goal.returns
returns g c = c.in_ok-push.ensures ▹ c.in_ok-push_numbers.ensures ▹ c.push-2.ensures
