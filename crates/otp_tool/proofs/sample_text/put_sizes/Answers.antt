use Rattle.outside.proofs.Writing.{puts_flushed, puts_stop}
use Rattle.otp_tool.proofs.sample_text.put_sizes.Goals as goal

pub returns-in_err-push_sizes : goal.returns-in_err-push_sizes
returns-in_err-push_sizes g c = puts_stop c.new-out.ensures c.from_residual.ensures.1 c.in_err-push_sizes.ensures

pub returns : goal.returns
returns g c = puts_flushed c.new-out.ensures c.in_ok-push_sizes.ensures c.flush.ensures.puts
