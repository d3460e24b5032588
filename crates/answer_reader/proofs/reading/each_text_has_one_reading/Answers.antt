use Rattle.answer_reader.proofs.Readings.{has_reading, one_value, one_cause, not_both}
use Rattle.answer_reader.proofs.reading.each_text_has_one_reading.Goals as goal

pub returns-clause-some : goal.returns-clause-some
returns-clause-some c = has_reading

pub returns-clause-one_value : goal.returns-clause-one_value
returns-clause-one_value c = one_value

pub returns-clause-one_cause : goal.returns-clause-one_cause
returns-clause-one_cause c = one_cause

pub returns-clause-not_both : goal.returns-clause-not_both
returns-clause-not_both c = not_both
