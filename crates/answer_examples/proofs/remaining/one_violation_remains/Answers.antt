use Rattle.answer_examples.proofs.OneRemains.{one_remains, not_none}
use Rattle.answer_examples.proofs.remaining.one_violation_remains.Goals as goal

pub returns-clause-one : goal.returns-clause-one
returns-clause-one c name = one_remains name

pub returns-clause-not_none : goal.returns-clause-not_none
returns-clause-not_none c name none = not_none name none
