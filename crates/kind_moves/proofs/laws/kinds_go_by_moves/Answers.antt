use Rattle.kind_moves.proofs.LawSteps.{kinds_law}
use Rattle.kind_moves.proofs.laws.kinds_go_by_moves.Goals as goal

pub returns : goal.returns
returns c frame stage start last p first h = kinds_law frame stage start first p last h
