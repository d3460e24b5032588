use Rattle.std.proofs.Common.{refl, rules}
use Rattle.otp_tool.proofs.hearing.heard.Goals as goal

pub returns-in-Err-Budget-clause-err : goal.returns-in-Err-Budget-clause-err
returns-in-Err-Budget-clause-err c = record {
  value = (c.in-Err-Budget.index, c.in-Err-Budget.stage);
  is = refl;
  fact = c.comprehend.ensures.over c.in-Err-Budget.index c.in-Err-Budget.stage (search rules);
}
