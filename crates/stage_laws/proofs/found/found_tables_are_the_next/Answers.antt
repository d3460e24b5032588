use Rattle.std.proofs.Common.{refl}
use Rattle.stage_laws.proofs.Staged.{next_stage}
use Rattle.stage_laws.proofs.found.found_tables_are_the_next.Goals as goal

pub returns : goal.returns
returns c problem r names states stage table pruned tight bases kinds found from weighed =
    next_stage problem r stage refl names states table pruned.table.states.items pruned.states.items tight
    pruned.table.some pruned.table.targets pruned.table.filled bases kinds found from weighed
