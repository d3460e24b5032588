use Rattle.otp_tool.proofs.VerdictLemmas.{told_by_verdict}
use Rattle.otp_tool.proofs.laws.one_status_is_settled.Goals as goal

pub returns : goal.returns
returns c words held command verdict are checks judges = told_by_verdict _ _ _ _ are checks judges
