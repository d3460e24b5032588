use Rattle.answer_text.proofs.Examples.{one_never_falls}
use Rattle.answer_text.proofs.tests.a_failing_write_leaves_a_front.Goals as goal

pub shape-requires-clause-rising : goal.shape-requires-clause-rising
shape-requires-clause-rising g c = one_never_falls
