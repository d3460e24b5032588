use Rattle.std.proofs.Common.{refl}
use Rattle.outside.proofs.Writing.{each_end, each_none, each_stop, each_turn, stop}
use Rattle.grammar_reader.specs.Words.{spaced_word}
use Rattle.grammar_reader.proofs.put.push_spaced.Goals as goal

pub loop-word-init : goal.loop-word-init
loop-word-init g c = each_none c.args.sink.now c.args.out.now spaced_word c.args.words.now

pub loop-word-preserved : goal.loop-word-preserved
loop-word-preserved g c = each_turn _ c.loop-word-test.true refl c.loop-word.invariant c.in_ok-push_spaced_word.ensures

pub returns-in_err-push_spaced_word : goal.returns-in_err-push_spaced_word
returns-in_err-push_spaced_word g c =
    stop c.from_residual.ensures.1
    (each_stop _ c.loop-word-test.true refl c.loop-word.invariant c.in_err-push_spaced_word.ensures)

pub returns : goal.returns
returns g c = each_end c.loop-word-test.false c.loop-word.invariant
