use Rattle.violation.proofs.ExampleLemmas.{least_is_none, least_not_one}
use Rattle.violation.proofs.examples.optima.least_vectors.Goals as goal

pub returns-clause-none : goal.returns-clause-none
returns-clause-none c = λ name. least_is_none name

pub returns-clause-one : goal.returns-clause-one
returns-clause-one c = λ name l. least_not_one name l
