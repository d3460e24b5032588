use Rattle.std.proofs.Common.{◌++◌, codes, ap}
use Rattle.answer_text.specs.Text.{line}
use Rattle.outside.proofs.Writing.{◌▹◌, cut, pushes_as, stop}
use Rattle.comprehend.proofs.put.push_entry_line.Goals as goal

pub returns-in_err-push : goal.returns-in_err-push
returns-in_err-push g c = stop c.from_residual.ensures.1 (cut _ c.in_err-push.ensures)

pub returns-in_err-push-2 : goal.returns-in_err-push-2
returns-in_err-push-2 g c = stop c.from_residual-in_err-push-2.ensures.1
    (pushes_as (ap (λ name. line (codes "entry " ++ name)) c.as_bytes.ensures.value)
    (cut _ (c.in_ok-push.ensures ▹ c.in_err-push-2.ensures)))

pub returns : goal.returns
returns g c =
    pushes_as (ap (λ name. line (codes "entry " ++ name)) c.as_bytes.ensures.value)
    (c.in_ok-push.ensures ▹ c.in_ok-push-2.ensures ▹ c.push-3.ensures)
