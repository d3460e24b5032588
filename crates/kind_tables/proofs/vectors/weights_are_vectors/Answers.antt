use Rattle.std.proofs.Common.{refl, arith}
use Rattle.kind_tables.proofs.VectorWeights.{run_vector_law, vectors_fit}
use Rattle.kind_tables.proofs.vectors.weights_are_vectors.Goals as goal

pub returns-clause-runs : goal.returns-clause-runs
returns-clause-runs c problem names states pass = run_vector_law problem pass.stage pass.few refl names states
    pass.table

pub returns-clause-sizes : goal.returns-clause-sizes
returns-clause-sizes c problem names states table few = vectors_fit problem refl names states table 4294967295
    (omega (arith, few))
