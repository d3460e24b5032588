use Rattle.right_laws.proofs.Orders.{orderly_from_right}
use Rattle.right_laws.proofs.orderly.right_answers_are_orderly.Goals as goal

pub returns : goal.returns
returns c = orderly_from_right
