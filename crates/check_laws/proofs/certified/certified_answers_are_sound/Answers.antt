use Rattle.check_laws.proofs.Soundness.{sound_from_certified}
use Rattle.check_laws.proofs.certified.certified_answers_are_sound.Goals as goal

pub returns : goal.returns
returns c problem answer split over states certified = sound_from_certified problem answer split over certified states
