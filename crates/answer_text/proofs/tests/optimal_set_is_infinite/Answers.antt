use Rattle.answer_text.proofs.Examples.{one_never_falls}
use Rattle.answer_text.proofs.tests.optimal_set_is_infinite.Goals as goal

pub shape-requires-clause-rising : goal.shape-requires-clause-rising
shape-requires-clause-rising g c = one_never_falls
