use Rattle.kind_moves.proofs.CostLaws.{prefix_costs, whole_costs}
use Rattle.kind_moves.proofs.laws.costs_are_violations.Goals as goal

pub returns-clause-prefixes : goal.returns-clause-prefixes
returns-clause-prefixes c frame stage start p q first candidate = prefix_costs frame stage start first p q candidate

pub returns-clause-candidates : goal.returns-clause-candidates
returns-clause-candidates c frame stage start T first candidate = whole_costs frame stage start first T candidate
