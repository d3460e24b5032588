use Rattle.stage_laws.proofs.{Pruned.kept_named, Staged.{kept_kinds, kept_paths}}
use Rattle.std.proofs.Common.{refl}
use Rattle.stage_laws.proofs.found.pruned_tables_keep_their_names.Goals as goal

pub returns-clause-named : goal.returns-clause-named
returns-clause-named c problem r names states stage named pruned tight =
    kept_named problem r stage names states named pruned.table.states.items pruned.states.items tight
    pruned.table.some pruned.table.targets pruned.table.filled

pub returns-clause-kinds : goal.returns-clause-kinds
returns-clause-kinds c problem r names states stage table pruned tight =
    kept_kinds problem r stage refl names states table pruned.table.states.items pruned.states.items tight
    pruned.table.some pruned.table.targets pruned.table.filled

pub returns-clause-prefixes : goal.returns-clause-prefixes
returns-clause-prefixes c problem r names states stage table pruned tight =
    kept_paths problem r stage refl names states table pruned.table.states.items pruned.states.items tight
    pruned.table.some pruned.table.targets pruned.table.filled
