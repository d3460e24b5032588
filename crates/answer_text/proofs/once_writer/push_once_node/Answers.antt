use Rattle.answer_text.proofs.OnceLines.{kind_same, numbers_same}
use Rattle.outside.proofs.Writing.{◌▹◌, cut, pushes_as, stop}
use Rattle.answer_text.proofs.once_writer.push_once_node.Goals as goal

pub returns-in_err-push : goal.returns-in_err-push
returns-in_err-push g c = stop c.from_residual.ensures.1 (cut _ c.in_err-push.ensures)

pub returns-in_err-push_kind : goal.returns-in_err-push_kind
returns-in_err-push_kind g c =
    let kind = kind_same c.args.node.now.kind c.free_count-free.ensures.value c.stretch_count-stretches.ensures.value in
    let pushed = c.in_ok-push.ensures ▹ (pushes_as kind c.in_err-push_kind.ensures) in
    stop c.from_residual-in_err-push_kind.ensures.1 (cut _ (cut _ pushed))

pub returns-in_err-push_numbers : goal.returns-in_err-push_numbers
returns-in_err-push_numbers g c =
    let kind = kind_same c.args.node.now.kind c.free_count-free.ensures.value c.stretch_count-stretches.ensures.value in
    let numbers = numbers_same c.constraint_count-constraints.ensures.value c.parts.ensures.value in
    let pushed = c.in_ok-push.ensures ▹ (pushes_as kind c.in_ok-push_kind.ensures)
    ▹ (pushes_as numbers c.in_err-push_numbers.ensures) in
    stop c.from_residual-in_err-push_numbers.ensures.1 (cut _ pushed)

pub returns : goal.returns
returns g c =
    let kind = kind_same c.args.node.now.kind c.free_count-free.ensures.value c.stretch_count-stretches.ensures.value in
    let numbers = numbers_same c.constraint_count-constraints.ensures.value c.parts.ensures.value in
    c.in_ok-push.ensures ▹ (pushes_as kind c.in_ok-push_kind.ensures)
    ▹ (pushes_as numbers c.in_ok-push_numbers.ensures) ▹ c.push-2.ensures
