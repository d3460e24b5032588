use Rattle.std.proofs.Common.{refl, arith}
use Rattle.kind_tables.proofs.Weighing.{one_at_most, sizes_fit}
use Rattle.kind_tables.proofs.weights.moves_weigh_one_at_most.Goals as goal

pub returns-clause-moves : goal.returns-clause-moves
returns-clause-moves c problem r names states table = one_at_most problem r names states table

pub returns-clause-sizes : goal.returns-clause-sizes
returns-clause-sizes c problem r names states table few = sizes_fit problem r names states table refl 4294967295
    (omega (arith, few))
