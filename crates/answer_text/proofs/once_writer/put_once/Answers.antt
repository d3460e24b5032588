use Rattle.outside.proofs.Writing.{puts_flushed, puts_stop}
use Rattle.answer_text.proofs.once_writer.put_once.Goals as goal

pub returns-in_err-push_once_lines : goal.returns-in_err-push_once_lines
returns-in_err-push_once_lines g c = puts_stop c.new-out.ensures c.from_residual.ensures.1
    c.in_err-push_once_lines.ensures

pub returns : goal.returns
returns g c = puts_flushed c.new-out.ensures c.in_ok-push_once_lines.ensures c.flush.ensures.puts
