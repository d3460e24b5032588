use Rattle.outside.proofs.Writing.{◌▹◌, cut, puts_flushed, puts_stop}
use Rattle.comprehend.proofs.put.put_hits.Goals as goal

pub returns-in_err-push_number : goal.returns-in_err-push_number
returns-in_err-push_number g c = puts_stop c.new-out.ensures c.from_residual.ensures.1
    (cut _ (cut _ c.in_err-push_number.ensures))

pub returns-in_err-push : goal.returns-in_err-push
returns-in_err-push g c = puts_stop c.new-out.ensures c.from_residual-in_err-push.ensures.1
    (cut _ (c.in_ok-push_number.ensures ▹ c.in_err-push.ensures))

pub returns-in_err-push_hits : goal.returns-in_err-push_hits
returns-in_err-push_hits g c = puts_stop c.new-out.ensures c.from_residual-in_err-push_hits.ensures.1
    (c.in_ok-push_number.ensures ▹ c.in_ok-push.ensures ▹ c.in_err-push_hits.ensures)

pub returns : goal.returns
returns g c = puts_flushed c.new-out.ensures
    (c.in_ok-push_number.ensures ▹ c.in_ok-push.ensures ▹ c.in_ok-push_hits.ensures) c.flush.ensures.puts
