use Rattle.std.proofs.Common.{ap, refl, ◌∙◌}
use Rattle.outside.proofs.Writing.{each_end, each_none, each_stop, each_turn, pushes_as, stop}
use Rattle.grammar_reader.specs.Canonical.{line_of_words}
use Rattle.grammar_reader.proofs.put.push_letters.Goals as goal

pub loop-letter-init : goal.loop-letter-init
loop-letter-init g c = each_none c.args.sink.now c.args.out.now _ c.args.letters.now

pub loop-letter-preserved : goal.loop-letter-preserved
loop-letter-preserved g c =
    let line = pushes_as (ap line_of_words (c.as_slice.ensures ∙ c.letter_words.ensures)) c.in_ok-push_line.ensures in
    each_turn _ c.loop-letter-test.true refl c.loop-letter.invariant line

pub returns-in_err-push_line : goal.returns-in_err-push_line
returns-in_err-push_line g c =
    let line = pushes_as (ap line_of_words (c.as_slice.ensures ∙ c.letter_words.ensures)) c.in_err-push_line.ensures in
    stop c.from_residual.ensures.1 (each_stop _ c.loop-letter-test.true refl c.loop-letter.invariant line)

pub returns : goal.returns
returns g c = each_end c.loop-letter-test.false c.loop-letter.invariant
