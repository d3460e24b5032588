use Rattle.outside.proofs.Writing.{◌▹◌, cut, pushes_as, stop}
use Rattle.answer_text.proofs.automaton_writer.push_state.Goals as goal

pub returns-in_err-push_number : goal.returns-in_err-push_number
returns-in_err-push_number g c = stop c.from_residual.ensures.1 (cut _ (cut _ (cut _ c.in_err-push_number.ensures)))

pub returns-in_err-push : goal.returns-in_err-push
returns-in_err-push g c =
    let pushed = c.in_ok-push_number.ensures ▹ (pushes_as c.final_mark.ensures c.in_err-push.ensures) in
    stop c.from_residual-in_err-push.ensures.1 (cut _ (cut _ pushed))

pub returns-in_err-push-2 : goal.returns-in_err-push-2
returns-in_err-push-2 g c =
    let pushed = c.in_ok-push_number.ensures ▹ (pushes_as c.final_mark.ensures c.in_ok-push.ensures)
    ▹ c.in_err-push-2.ensures in
    stop c.from_residual-in_err-push-2.ensures.1 (cut _ pushed)

pub returns : goal.returns
returns g c =
    c.in_ok-push_number.ensures ▹ (pushes_as c.final_mark.ensures c.in_ok-push.ensures)
    ▹ c.in_ok-push-2.ensures ▹ (rw c.deref.ensures.value at c.push_arcs.ensures)
