use Rattle.budget_laws.proofs.Within.{first_is_over, two_are_enough}
use Rattle.budget_laws.proofs.enough.first_stage_over_a_budget.Goals as goal

pub returns-clause-over : goal.returns-clause-over
returns-clause-over c = first_is_over

pub returns-clause-within : goal.returns-clause-within
returns-clause-within c = two_are_enough
