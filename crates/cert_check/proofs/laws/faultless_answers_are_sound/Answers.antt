use Rattle.check_laws.proofs.Soundness.{sound_from_certified}
use Rattle.cert_check.proofs.Certifying.{certified_if_faultless}
use Rattle.cert_check.proofs.laws.faultless_answers_are_sound.Goals as goal

pub returns : goal.returns
returns c problem answer split over states form faultless =
    sound_from_certified _ _ split over (certified_if_faultless _ _ faultless form) states
