use Rattle.cert_check.proofs.FaultsSeen.{same_faults, same_first, same_verdict}
use Rattle.cert_check.proofs.laws.faults_are_in_what_is_seen.Goals as goal

pub returns-clause-faults : goal.returns-clause-faults
returns-clause-faults c problem other answer seen = same_faults _ _ _ _

pub returns-clause-first : goal.returns-clause-first
returns-clause-first c problem other answer seen = same_first _ _ _ _

pub returns-clause-verdict : goal.returns-clause-verdict
returns-clause-verdict c problem other answer seen = same_verdict _ _ _ _
