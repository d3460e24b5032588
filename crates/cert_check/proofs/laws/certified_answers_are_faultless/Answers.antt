use Rattle.cert_check.proofs.Faultless.{faultless_if_certified}
use Rattle.cert_check.proofs.laws.certified_answers_are_faultless.Goals as goal

pub returns : goal.returns
returns c problem answer states certified = faultless_if_certified _ _ states certified
