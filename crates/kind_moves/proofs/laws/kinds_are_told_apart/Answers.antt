use Rattle.kind_moves.proofs.KindEquality.{same_told}
use Rattle.kind_moves.proofs.laws.kinds_are_told_apart.Goals as goal

pub returns : goal.returns
returns c frame stage k l fk fl e = same_told frame stage k l fk fl e
