use Rattle.answer_text.proofs.Examples.{four_never_fall}
use Rattle.answer_text.proofs.tests.stages_and_states_are_written.Goals as goal

pub shape-requires-clause-rising : goal.shape-requires-clause-rising
shape-requires-clause-rising g c = four_never_fall
