use Rattle.violation.proofs.ExampleLemmas.{whole_optimal, none_not_optimal}
use Rattle.violation.proofs.examples.optima.optimal_candidates.Goals as goal

pub returns-clause-not_one_optimal : goal.returns-clause-not_one_optimal
returns-clause-not_one_optimal c = λ name o. none_not_optimal name o

pub returns-clause-optimal : goal.returns-clause-optimal
returns-clause-optimal c = λ name. whole_optimal name
