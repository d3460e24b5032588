use Rattle.right_laws.proofs.Bounds.{small_from_right}
use Rattle.right_laws.proofs.small.right_answers_are_small.Goals as goal

pub returns : goal.returns
returns c = small_from_right
