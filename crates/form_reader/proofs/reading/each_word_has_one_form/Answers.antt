use Rattle.form_reader.proofs.ReadingLemmas.{has_form, not_refused, one_reading}
use Rattle.form_reader.proofs.reading.each_word_has_one_form.Goals as goal

pub returns-clause-some : goal.returns-clause-some
returns-clause-some c = has_form

pub returns-clause-one_form : goal.returns-clause-one_form
returns-clause-one_form c = one_reading

pub returns-clause-not_both : goal.returns-clause-not_both
returns-clause-not_both c = not_refused
