use Rattle.answer_text.proofs.Examples.{four_never_fall}
use Rattle.answer_text.proofs.once_tests.a_node_has_a_number_for_each_constraint.Goals as goal

pub shape-requires-clause-rising : goal.shape-requires-clause-rising
shape-requires-clause-rising g c = four_never_fall
