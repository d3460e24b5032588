use Rattle.check_laws.proofs.RightStates.{certified_from_right}
use Rattle.check_laws.proofs.right.right_answers_are_certified.Goals as goal

pub returns : goal.returns
returns c problem answer split over form short right =
    certified_from_right problem answer (record { split = split; over = over; form = form; right = right }) short
