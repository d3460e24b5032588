use Rattle.outside.proofs.Writing.{puts_flushed, puts_stop}
use Rattle.outside.proofs.tests.put_two.Goals as goal

pub returns-in_err-push_two : goal.returns-in_err-push_two
returns-in_err-push_two g c = puts_stop c.new-out.ensures c.from_residual.ensures.1 c.in_err-push_two.ensures

pub returns : goal.returns
returns g c = puts_flushed c.new-out.ensures c.in_ok-push_two.ensures c.flush.ensures.puts
