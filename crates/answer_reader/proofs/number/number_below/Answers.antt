use Rattle.std.proofs.Common.{arith, sym, ◌∙◌}
use Rattle.answer_reader.proofs.Digits.{number_above}
use Rattle.answer_reader.proofs.number.number_below.Goals as goal

pub returns-then-number-bound-clause-number : goal.returns-then-number-bound-clause-number
returns-then-number-bound-clause-number c =
    number_above c.args.bound c.loop-digit.number c.loop-digit.digit-index c.args.run.now (omega arith)
    (sym c.has_leading_zero.ensures ∙ c.if-has_leading_zero.false) c.loop-digit.invariant.rest
    c.if-number-bound.true
