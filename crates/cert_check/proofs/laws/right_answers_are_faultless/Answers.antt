use Rattle.check_laws.proofs.RightStates.{certified_from_right}
use Rattle.cert_check.proofs.Faultless.{faultless_if_certified}
use Rattle.cert_check.proofs.laws.right_answers_are_faultless.Goals as goal

pub returns : goal.returns
returns c problem answer split over form short states right =
    faultless_if_certified _ _ states
    (certified_from_right _ _ (record { split = split; over = over; form = form; right = right }) short)
