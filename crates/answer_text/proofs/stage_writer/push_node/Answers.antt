use Rattle.outside.proofs.Writing.{◌▹◌, cut, stop}
use Rattle.answer_text.proofs.stage_writer.push_node.Goals as goal

pub returns-in_err-push : goal.returns-in_err-push
returns-in_err-push g c = stop c.from_residual.ensures.1 (cut _ c.in_err-push.ensures)

pub returns-in_err-push_kind : goal.returns-in_err-push_kind
returns-in_err-push_kind g c =
    let pushed = c.in_ok-push.ensures ▹ c.in_err-push_kind.ensures in
    stop c.from_residual-in_err-push_kind.ensures.1 (cut _ (cut _ pushed))

pub returns-in_err-push_number : goal.returns-in_err-push_number
returns-in_err-push_number g c =
    let pushed = c.in_ok-push.ensures ▹ c.in_ok-push_kind.ensures ▹ c.in_err-push_number.ensures in
    stop c.from_residual-in_err-push_number.ensures.1 (cut _ pushed)

pub returns : goal.returns
returns g c = c.in_ok-push.ensures ▹ c.in_ok-push_kind.ensures ▹ c.in_ok-push_number.ensures ▹ c.push-2.ensures
