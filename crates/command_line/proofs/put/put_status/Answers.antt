use Rattle.outside.proofs.Writing.{puts_flushed, puts_stop}
use Rattle.command_line.proofs.put.put_status.Goals as goal

pub returns-in_err-push_line : goal.returns-in_err-push_line
returns-in_err-push_line g c = puts_stop c.new-out.ensures c.from_residual.ensures.1 c.in_err-push_line.ensures

pub returns : goal.returns
returns g c = puts_flushed c.new-out.ensures c.in_ok-push_line.ensures c.flush.ensures.puts
