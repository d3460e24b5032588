use Rattle.answer_examples.proofs.EmptyForm.{certified, sound, right, later, later_candidate, later_not_right}
use Rattle.answer_examples.proofs.unranked.unranked_answers.Goals as goal

pub returns-clause-certified : goal.returns-clause-certified
returns-clause-certified c answer example candidate s = certified answer example candidate s

pub returns-clause-sound : goal.returns-clause-sound
returns-clause-sound c answer example candidate s = sound answer example candidate s

pub returns-clause-right : goal.returns-clause-right
returns-clause-right c answer s = right answer s

pub returns-clause-another_example : goal.returns-clause-another_example
returns-clause-another_example c answer s = sound answer later later_candidate s

pub returns-clause-not_right : goal.returns-clause-not_right
returns-clause-not_right c answer s = later_not_right answer s
