use Rattle.kind_moves.proofs.LawSteps.{prefixes_law, candidates_law}
use Rattle.kind_moves.proofs.laws.moves_are_of_candidates.Goals as goal

pub returns-clause-prefixes : goal.returns-clause-prefixes
returns-clause-prefixes c frame stage start p first = prefixes_law frame stage start first p

pub returns-clause-candidates : goal.returns-clause-candidates
returns-clause-candidates c frame stage start T first = candidates_law frame stage start first T
