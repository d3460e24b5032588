use Rattle.violation.proofs.ExampleLemmas.{empty_kinds, not_closed_alone, not_open_first, not_place_one}
use Rattle.violation.proofs.examples.optima.kinds_of_the_empty_form.Goals as goal

pub returns-clause-both : goal.returns-clause-both
returns-clause-both c = empty_kinds

pub returns-clause-one_missing : goal.returns-clause-one_missing
returns-clause-one_missing c = λ k. not_closed_alone k

pub returns-clause-not_in_order : goal.returns-clause-not_in_order
returns-clause-not_in_order c = λ k. not_open_first k

pub returns-clause-no_such_place : goal.returns-clause-no_such_place
returns-clause-no_such_place c = λ k. not_place_one k
