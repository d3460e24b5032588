use Rattle.cert_check.proofs.AlikeMoves.{moved_alike, cost_alike}
use Rattle.cert_check.proofs.alike.alike_columns_move_alike.Goals as goal

pub returns-clause-moved : goal.returns-clause-moved
returns-clause-moved c = moved_alike

pub returns-clause-cost : goal.returns-clause-cost
returns-clause-cost c = cost_alike
