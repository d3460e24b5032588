use Rattle.std.proofs.Common.{refl, subst}
use Rattle.answer_reader.specs.{Reading.answer_of, Steps.Fails}
use Rattle.otp_tool.proofs.checking.answer_of.Goals as goal

pub returns-in-Err-At-clause-err : goal.returns-in-Err-At-clause-err
returns-in-Err-At-clause-err c = (
  refl,
  record {
    value = record { line = c.in-Err-At.line; cause = c.in-Err-At.cause };
    is = refl;
    fact = rw c.in-Err-At.field-0-is at c.in-Err-At.ensures.err;
  },
)
