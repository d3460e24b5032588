use Rattle.cert_check.proofs.Certifying.{certified_if_faultless}
use Rattle.cert_check.proofs.laws.faultless_answers_are_certified.Goals as goal

pub returns : goal.returns
returns c problem answer form faultless = certified_if_faultless _ _ faultless form
