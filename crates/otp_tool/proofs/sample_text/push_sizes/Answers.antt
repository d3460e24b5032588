use Rattle.outside.proofs.Writing.{◌▹◌, cut, stop}
use Rattle.otp_tool.proofs.sample_text.push_sizes.Goals as goal

pub returns-in_err-push_size : goal.returns-in_err-push_size
returns-in_err-push_size g c = stop c.from_residual.ensures.1 (cut _ c.in_err-push_size.ensures)

pub returns-in_err-push_size-2 : goal.returns-in_err-push_size-2
returns-in_err-push_size-2 g c =
    stop c.from_residual-in_err-push_size-2.ensures.1
    (c.in_ok-push_size.ensures ▹ cut _ c.in_err-push_size-2.ensures)

pub returns : goal.returns
returns g c =
    let last = rw c.last_line.ensures at c.push.ensures in
    c.in_ok-push_size.ensures ▹ (c.in_ok-push_size-2.ensures ▹ last)
