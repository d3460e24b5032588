use Rattle.answer_text.proofs.Lines.{counts_text_is}
use Rattle.outside.proofs.Writing.{pushes_as, puts_flushed, puts_stop}
use Rattle.answer_text.proofs.parts.put_counts.Goals as goal

pub returns-in_err-push_counts_line : goal.returns-in_err-push_counts_line
returns-in_err-push_counts_line g c =
    let line = pushes_as (counts_text_is c.args.counts.now) c.in_err-push_counts_line.ensures in
    puts_stop c.new-out.ensures c.from_residual.ensures.1 line

pub returns : goal.returns
returns g c =
    let line = pushes_as (counts_text_is c.args.counts.now) c.in_ok-push_counts_line.ensures in
    puts_flushed c.new-out.ensures line c.flush.ensures.puts
