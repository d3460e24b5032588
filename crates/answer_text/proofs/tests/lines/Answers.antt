use Rattle.std.proofs.Common.{refl}
use Rattle.std.specs.Fmt.{digits}
use Rattle.answer_text.proofs.Examples.{node_line_is}
use Rattle.answer_text.proofs.tests.lines.Goals as goal

pub returns-clause-node : goal.returns-clause-node
unfolding digits
returns-clause-node c = λ node e p. node_line_is 1 1 node _ 1 e p

pub returns-clause-phases : goal.returns-clause-phases
unfolding digits
returns-clause-phases c = λ node e p. node_line_is 2 3 node _ 20 e p

pub returns-clause-stage : goal.returns-clause-stage
unfolding digits
returns-clause-stage c = refl

pub returns-clause-arc : goal.returns-clause-arc
unfolding digits
returns-clause-arc c = λ arc t s. rw (t, s) refl

pub returns-clause-state : goal.returns-clause-state
unfolding digits
returns-clause-state c = λ state n a s. rw (n, a, s) refl

pub returns-clause-other : goal.returns-clause-other
unfolding digits
returns-clause-other c = λ state n a s. rw (n, a, s) refl

pub returns-clause-some : goal.returns-clause-some
unfolding digits
returns-clause-some c = refl
