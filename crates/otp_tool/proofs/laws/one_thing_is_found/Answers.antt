use Rattle.otp_tool.proofs.{FindingLemmas.one_finding, ToldLemmas.told_by_finding}
use Rattle.otp_tool.proofs.laws.one_thing_is_found.Goals as goal

pub returns-clause-one : goal.returns-clause-one
returns-clause-one c command bytes second finding other f h = one_finding _ _ _ _ _ f h

pub returns-clause-told : goal.returns-clause-told
returns-clause-told c words held command finding are finds = told_by_finding _ _ _ _ are finds
