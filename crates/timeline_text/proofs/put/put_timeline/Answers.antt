use Rattle.outside.proofs.Writing.{puts_flushed, puts_stop}
use Rattle.timeline_text.proofs.put.put_timeline.Goals as goal

pub returns-in_err-push_timeline : goal.returns-in_err-push_timeline
returns-in_err-push_timeline g c = puts_stop c.new-out.ensures c.from_residual.ensures.1 c.in_err-push_timeline.ensures

pub returns : goal.returns
returns g c = puts_flushed c.new-out.ensures c.in_ok-push_timeline.ensures c.flush.ensures.puts
