use Rattle.answer_examples.proofs.EmptyForm.{certified_under_dep, sound_under_dep, right_under_dep}
use Rattle.answer_examples.proofs.one_dep.answers_under_one_dependence.Goals as goal

pub returns-clause-certified : goal.returns-clause-certified
returns-clause-certified c name answer s = certified_under_dep name answer s

pub returns-clause-sound : goal.returns-clause-sound
returns-clause-sound c name answer s = sound_under_dep name answer s

pub returns-clause-right : goal.returns-clause-right
returns-clause-right c name answer s = right_under_dep name answer s
