use Rattle.std.proofs.Common.{refl}
use Rattle.kind_tables.proofs.Weighing.{run_weight_law, path_weight_law}
use Rattle.kind_tables.proofs.weights.weights_are_violations.Goals as goal

pub returns-clause-runs : goal.returns-clause-runs
returns-clause-runs c problem r names states stage ranked table = run_weight_law problem r stage refl names states
    table ranked

pub returns-clause-paths : goal.returns-clause-paths
returns-clause-paths c problem r names states stage ranked table = path_weight_law problem r stage refl names states
    table.named table.weighed ranked
