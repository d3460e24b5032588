use Rattle.kind_tables.proofs.Naming.{path_kind, names_law}
use Rattle.kind_tables.proofs.names.names_are_kinds.Goals as goal

pub returns-clause-paths : goal.returns-clause-paths
returns-clause-paths c problem r names states stage table = path_kind problem r stage names states table.named

pub returns-clause-names : goal.returns-clause-names
returns-clause-names c problem r names states stage table = names_law problem r stage names states table.named _
    table.accepts table.on_runs
