use Rattle.outside.proofs.Writing.{puts_flushed, puts_stop}
use Rattle.grammar_reader.proofs.put.put_grammar.Goals as goal

pub returns-in_err-push_grammar : goal.returns-in_err-push_grammar
returns-in_err-push_grammar g c = puts_stop c.new-out.ensures c.from_residual.ensures.1 c.in_err-push_grammar.ensures

pub returns : goal.returns
returns g c = puts_flushed c.new-out.ensures c.in_ok-push_grammar.ensures c.flush.ensures.puts
