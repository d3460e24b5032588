use Rattle.otp_tool.proofs.PutsLemmas.{puts_cut, puts_then}
use Rattle.otp_tool.proofs.sample_text.put_sample.Goals as goal

pub returns-in_err-put_form : goal.returns-in_err-put_form
returns-in_err-put_form g c = puts_cut _ c.from_residual.ensures.1 c.in_err-put_form.ensures

pub returns-in_err-put_shown : goal.returns-in_err-put_shown
returns-in_err-put_shown g c =
    puts_then c.in_ok-put_form.ensures
    (puts_cut _ c.from_residual-in_err-put_shown.ensures.1 c.in_err-put_shown.ensures)

pub returns : goal.returns
returns g c =
    let sizes = rw c.as_slice.ensures.value at c.put_sizes.ensures in
    puts_then c.in_ok-put_form.ensures (puts_then c.in_ok-put_shown.ensures sizes)
