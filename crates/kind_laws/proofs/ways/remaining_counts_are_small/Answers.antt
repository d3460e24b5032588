use Rattle.kind_laws.proofs.DirectWays.{remaining_few}
use Rattle.kind_laws.proofs.ways.remaining_counts_are_small.Goals as goal

pub returns : goal.returns
returns c = remaining_few
