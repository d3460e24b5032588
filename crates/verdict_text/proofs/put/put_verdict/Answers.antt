use Rattle.outside.proofs.Writing.{puts_flushed, puts_stop}
use Rattle.verdict_text.proofs.put.put_verdict.Goals as goal

pub returns-in_err-push_verdict : goal.returns-in_err-push_verdict
returns-in_err-push_verdict g c = puts_stop c.new-out.ensures c.from_residual.ensures.1 c.in_err-push_verdict.ensures

pub returns : goal.returns
returns g c = puts_flushed c.new-out.ensures c.in_ok-push_verdict.ensures c.flush.ensures.puts
