use Rattle.answer_text.proofs.Examples.{one_never_falls}
use Rattle.kind_orders.proofs.tests.kinds_are_put_in_order.Goals as goal

pub shape-requires-clause-rising : goal.shape-requires-clause-rising
shape-requires-clause-rising g c = one_never_falls
