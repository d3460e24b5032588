use Rattle.std.proofs.Common.{refl}
use Rattle.violation.specs.Counts.{viol}
use Rattle.answer_examples.proofs.AnswerTests.{refused_head}
use Rattle.answer_examples.proofs.altered.altered_heads_are_refused.Goals as goal

pub returns-clause-another_form : goal.returns-clause-another_form
unfolding viol
returns-clause-another_form c one max dep answer s = refused_head s refl

pub returns-clause-no_form : goal.returns-clause-no_form
unfolding viol
returns-clause-no_form c one max dep answer s = refused_head s refl

pub returns-clause-first_count : goal.returns-clause-first_count
unfolding viol
returns-clause-first_count c one max dep answer s = refused_head s refl

pub returns-clause-second_count : goal.returns-clause-second_count
unfolding viol
returns-clause-second_count c one max dep answer s = refused_head s refl

pub returns-clause-last_count : goal.returns-clause-last_count
unfolding viol
returns-clause-last_count c one max dep answer s = refused_head s refl

pub returns-clause-two_counts : goal.returns-clause-two_counts
unfolding viol
returns-clause-two_counts c one max dep answer s = refused_head s refl

pub returns-clause-greatest_count : goal.returns-clause-greatest_count
unfolding viol
returns-clause-greatest_count c one max dep answer s = refused_head s refl

pub returns-clause-example_of_another_form : goal.returns-clause-example_of_another_form
unfolding viol
returns-clause-example_of_another_form c one max dep answer s = refused_head s refl

pub returns-clause-example_with_an_a : goal.returns-clause-example_with_an_a
unfolding viol
returns-clause-example_with_an_a c one max dep answer s = refused_head s refl

pub returns-clause-no_last_stage : goal.returns-clause-no_last_stage
unfolding viol
returns-clause-no_last_stage c one max dep answer s = refused_head s refl

pub returns-clause-stage_added : goal.returns-clause-stage_added
unfolding viol
returns-clause-stage_added c one max dep answer s = refused_head s refl
