use Rattle.answer_text.specs.OnceText.{once_widths_of}
use Rattle.answer_text.proofs.OnceLines.{whole_once}
use Rattle.outside.proofs.Writing.{◌▹◌, cut, pushes_as, stop}
use Rattle.answer_text.proofs.once_writer.push_once_lines.Goals as goal

pub returns-in_err-push_once_head : goal.returns-in_err-push_once_head
returns-in_err-push_once_head g c =
    let pushed = c.in_err-push_once_head.ensures in
    stop c.from_residual.ensures.1
    (pushes_as (whole_once (once_widths_of c.args.shape.now) c.args.answer.now) (cut _ (cut _ (cut _ pushed))))

pub returns-in_err-push_once_nodes : goal.returns-in_err-push_once_nodes
returns-in_err-push_once_nodes g c =
    let pushed = c.in_ok-push_once_head.ensures ▹ (rw c.deref.ensures.value at c.in_err-push_once_nodes.ensures) in
    stop c.from_residual-in_err-push_once_nodes.ensures.1
    (pushes_as (whole_once (once_widths_of c.args.shape.now) c.args.answer.now) (cut _ (cut _ pushed)))

pub returns-in_err-push_automaton : goal.returns-in_err-push_automaton
returns-in_err-push_automaton g c =
    let pushed = c.in_ok-push_once_head.ensures ▹ (rw c.deref.ensures.value at c.in_ok-push_once_nodes.ensures)
    ▹ (rw c.deref-2.ensures.value at c.in_err-push_automaton.ensures) in
    stop c.from_residual-in_err-push_automaton.ensures.1
    (pushes_as (whole_once (once_widths_of c.args.shape.now) c.args.answer.now) (cut _ pushed))

pub returns : goal.returns
returns g c =
    let pushed = c.in_ok-push_once_head.ensures ▹ (rw c.deref.ensures.value at c.in_ok-push_once_nodes.ensures)
    ▹ (rw c.deref-2.ensures.value at c.in_ok-push_automaton.ensures) ▹ c.push.ensures in
    pushes_as (whole_once (once_widths_of c.args.shape.now) c.args.answer.now) pushed
