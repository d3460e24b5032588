use Rattle.std.proofs.Common.{refl}
use Rattle.stage_laws.proofs.{LeastVectors.{least_vector, least_rest_vector}, PrunedOnce.whole_names}
use Rattle.stage_laws.proofs.vectors.least_vectors_remain.Goals as goal

pub returns-clause-names : goal.returns-clause-names
returns-clause-names c problem names states pass = whole_names problem pass.stage pass.few refl names states pass.table

pub returns-clause-from_start : goal.returns-clause-from_start
returns-clause-from_start c problem names states pass = least_vector problem pass.stage pass.few refl names states
    pass.table

pub returns-clause-from_state : goal.returns-clause-from_state
returns-clause-from_state c problem names states pass = least_rest_vector problem pass.stage pass.few refl names
    states pass.table
