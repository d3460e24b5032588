use Rattle.budget_laws.proofs.Within.{all_within, none_over, plain_within, grammar_within}
use Rattle.budget_laws.proofs.enough.stages_are_within_enough.Goals as goal

pub returns-clause-within : goal.returns-clause-within
returns-clause-within c problem budget split form over least = all_within problem split form over budget least

pub returns-clause-never_over : goal.returns-clause-never_over
returns-clause-never_over c problem budget stage split form over least first =
    none_over problem split form over budget stage (all_within problem split form over budget least) first

pub returns-clause-without_stretches : goal.returns-clause-without_stretches
returns-clause-without_stretches c problem split form over short few none =
    plain_within problem split form over short few none

pub returns-clause-of_grammars : goal.returns-clause-of_grammars
returns-clause-of_grammars c grammar form budget is_form least = grammar_within grammar form budget is_form least
