use Rattle.std.proofs.Common.{refl}
use Rattle.stage_laws.proofs.Optimal.{number_law, vector_law}
use Rattle.stage_laws.proofs.optima.least_weight_is_the_least_number.Goals as goal

pub returns-clause-of_candidates : goal.returns-clause-of_candidates
returns-clause-of_candidates c problem r names states stage ranked table = number_law problem r stage refl names
    states table ranked

pub returns-clause-of_the_vector : goal.returns-clause-of_the_vector
returns-clause-of_the_vector c problem r names states stage ranked table = vector_law problem r stage refl names
    states table ranked
