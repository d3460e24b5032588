use Rattle.std.proofs.Common.{refl}
use Rattle.stage_laws.proofs.Resting.{remaining_law, least_from, some_weight}
use Rattle.stage_laws.proofs.remaining.least_weights_remain.Goals as goal

pub returns-clause-from_state : goal.returns-clause-from_state
returns-clause-from_state c problem r names states stage table = remaining_law problem r stage refl names states table

pub returns-clause-of_all : goal.returns-clause-of_all
returns-clause-of_all c problem r names states stage table least are s w e = remaining_law problem r stage refl names
    states table s w (least_from states least are s w e)

pub returns-clause-each_state : goal.returns-clause-each_state
returns-clause-each_state c problem r names states table least are s l = some_weight states least are s l
    (table.on_runs s l)
