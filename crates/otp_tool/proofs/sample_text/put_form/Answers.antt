use Rattle.outside.proofs.Writing.{puts_flushed, puts_stop}
use Rattle.otp_tool.proofs.sample_text.put_form.Goals as goal

pub returns-in_err-push_form : goal.returns-in_err-push_form
returns-in_err-push_form g c = puts_stop c.new-out.ensures c.from_residual.ensures.1 c.in_err-push_form.ensures

pub returns : goal.returns
returns g c = puts_flushed c.new-out.ensures c.in_ok-push_form.ensures c.flush.ensures.puts
