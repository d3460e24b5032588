use Rattle.std.proofs.Common.{refl, rules}
use Rattle.otp_tool.proofs.answer.answer_for.Goals as goal

pub returns-in-Err-Budget-clause-err : goal.returns-in-Err-Budget-clause-err
returns-in-Err-Budget-clause-err c = record {
  value = c.in-Err-Budget.stage;
  is = refl;
  fact = c.generate.ensures.over c.in-Err-Budget.stage (search rules);
}
