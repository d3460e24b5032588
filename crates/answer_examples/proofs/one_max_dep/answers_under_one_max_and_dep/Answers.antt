use Rattle.answer_examples.proofs.OneMaxDep.{certified, sound, right}
use Rattle.answer_examples.proofs.one_max_dep.answers_under_one_max_and_dep.Goals as goal

pub returns-clause-certified : goal.returns-clause-certified
returns-clause-certified c one max dep answer s = certified one max dep answer s

pub returns-clause-sound : goal.returns-clause-sound
returns-clause-sound c one max dep answer s = sound one max dep answer s

pub returns-clause-right : goal.returns-clause-right
returns-clause-right c one max dep answer s = right one max dep answer s
