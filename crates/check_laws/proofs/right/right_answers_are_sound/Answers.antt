use Rattle.check_laws.proofs.RightAnswers.{sound_from_right}
use Rattle.check_laws.proofs.right.right_answers_are_sound.Goals as goal

pub returns : goal.returns
returns c problem answer right = sound_from_right problem answer right
