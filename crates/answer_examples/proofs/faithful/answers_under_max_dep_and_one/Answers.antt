use Rattle.std.proofs.Common.{refl}
use Rattle.violation.specs.Counts.{viol}
use Rattle.answer_examples.proofs.{AnswerTests.refused_head, FaithfulAnswers.{certified_nine, sound_nine, right_nine}}
use Rattle.answer_examples.proofs.FaithfulAnswers.{later_not_right, other_not_right}
use Rattle.answer_examples.proofs.faithful.answers_under_max_dep_and_one.Goals as goal

pub returns-clause-certified : goal.returns-clause-certified
returns-clause-certified c max dep one answer example nine s = certified_nine max dep one example nine answer s

pub returns-clause-sound : goal.returns-clause-sound
returns-clause-sound c max dep one answer example nine s = sound_nine max dep one example nine answer s

pub returns-clause-right : goal.returns-clause-right
returns-clause-right c max dep one answer s = right_nine max dep one answer s

pub returns-clause-not_right : goal.returns-clause-not_right
returns-clause-not_right c max dep one answer example nine after s =
    later_not_right max dep one example nine after answer s

pub returns-clause-another_example : goal.returns-clause-another_example
returns-clause-another_example c max dep one answer s = other_not_right max dep one answer s

pub returns-clause-another_ranking : goal.returns-clause-another_ranking
unfolding viol
returns-clause-another_ranking c max dep one answer s = refused_head s refl
