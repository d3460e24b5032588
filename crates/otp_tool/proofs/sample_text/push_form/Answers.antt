use Rattle.std.proofs.Common.{[], ◌∷◌}
use Rattle.outside.proofs.Writing.{◌▹◌, cut, stop}
use Rattle.otp_tool.proofs.sample_text.push_form.Goals as goal

pub returns-in_err-push : goal.returns-in_err-push
returns-in_err-push g c = stop c.from_residual.ensures.1 (cut (10 ∷ []) (cut c.args.word.now c.in_err-push.ensures))

pub returns-in_err-push-2 : goal.returns-in_err-push-2
returns-in_err-push-2 g c =
    stop c.from_residual-in_err-push-2.ensures.1 (cut _ (c.in_ok-push.ensures ▹ c.in_err-push-2.ensures))

pub returns : goal.returns
returns g c = c.in_ok-push.ensures ▹ c.in_ok-push-2.ensures ▹ c.push-3.ensures
