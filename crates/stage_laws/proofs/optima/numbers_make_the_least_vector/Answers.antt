use Rattle.violation.proofs.{StageLemmas.optimal_for_fewer, LeastVector.vector_of_numbers}
use Rattle.stage_laws.proofs.optima.numbers_make_the_least_vector.Goals as goal

pub returns-clause-vector : goal.returns-clause-vector
returns-clause-vector c = vector_of_numbers

pub returns-clause-fewer : goal.returns-clause-fewer
returns-clause-fewer c problem T r s l opt = optimal_for_fewer problem r s l T opt
