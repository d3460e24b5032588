use Rattle.violation.proofs.ExampleLemmas.{nothing_remains, not_one_remains}
use Rattle.violation.proofs.examples.optima.remaining_violations.Goals as goal

pub returns-clause-stage_one : goal.returns-clause-stage_one
returns-clause-stage_one c = λ name. nothing_remains name

pub returns-clause-not_more : goal.returns-clause-not_more
returns-clause-not_more c = λ name r. not_one_remains name r
