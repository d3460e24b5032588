use Rattle.answer_examples.proofs.FaithfulAnswers.{certified, sound, right}
use Rattle.answer_examples.proofs.faithful.answers_under_max_and_dep.Goals as goal

pub returns-clause-certified : goal.returns-clause-certified
returns-clause-certified c max dep answer s = certified max dep answer s

pub returns-clause-sound : goal.returns-clause-sound
returns-clause-sound c max dep answer s = sound max dep answer s

pub returns-clause-right : goal.returns-clause-right
returns-clause-right c max dep answer s = right max dep answer s
