use Rattle.ranked_gen.proofs.AgreeingAnswers.{same_accepted, same_counts, same_example}
use Rattle.ranked_gen.proofs.agreement.both_generators_agree.Goals as goal

pub returns-clause-accepts : goal.returns-clause-accepts
returns-clause-accepts c = same_accepted

pub returns-clause-counts : goal.returns-clause-counts
returns-clause-counts c = same_counts

pub returns-clause-example : goal.returns-clause-example
returns-clause-example c = same_example
