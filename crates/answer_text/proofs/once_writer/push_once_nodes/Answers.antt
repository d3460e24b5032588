use Rattle.outside.proofs.Writing.{◌▹◌, cut, stop}
use Rattle.answer_text.proofs.once_writer.push_once_nodes.Goals as goal

pub returns-in_err-push_number : goal.returns-in_err-push_number
returns-in_err-push_number g c = stop c.from_residual.ensures.1 (cut _ (cut _ c.in_err-push_number.ensures))

pub returns-in_err-push : goal.returns-in_err-push
returns-in_err-push g c =
    stop c.from_residual-in_err-push.ensures.1 (cut _ (c.in_ok-push_number.ensures ▹ c.in_err-push.ensures))

pub returns : goal.returns
returns g c = c.in_ok-push_number.ensures ▹ c.in_ok-push.ensures ▹ c.push_each_node.ensures
