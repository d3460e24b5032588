use Rattle.kind_laws.proofs.DirectWays.{first_short}
use Rattle.kind_laws.proofs.ways.first_candidates_are_short.Goals as goal

pub returns : goal.returns
returns c = first_short
