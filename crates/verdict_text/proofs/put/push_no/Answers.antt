use Rattle.std.proofs.Common.{[], ◌∷◌}
use Rattle.outside.proofs.Writing.{◌▹◌, cut, stop}
use Rattle.answer_text.specs.Shape.{widths_of}
use Rattle.verdict_text.specs.VerdictText.{fault_text}
use Rattle.verdict_text.proofs.put.push_no.Goals as goal

pub returns-in_err-push : goal.returns-in_err-push
returns-in_err-push g c =
    stop c.from_residual.ensures.1
    (cut (10 ∷ []) (cut (fault_text (widths_of c.args.shape.now) c.args.fault.now) c.in_err-push.ensures))

pub returns-in_err-push_fault : goal.returns-in_err-push_fault
returns-in_err-push_fault g c =
    stop c.from_residual-in_err-push_fault.ensures.1
    (cut (10 ∷ []) (c.in_ok-push.ensures ▹ c.in_err-push_fault.ensures))

pub returns : goal.returns
returns g c = c.in_ok-push.ensures ▹ c.in_ok-push_fault.ensures ▹ c.push-2.ensures
