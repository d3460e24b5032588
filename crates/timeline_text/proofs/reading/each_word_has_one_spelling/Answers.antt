use Rattle.timeline_text.proofs.Spellings.{has_spelling, one_form, never_both}
use Rattle.timeline_text.proofs.reading.each_word_has_one_spelling.Goals as goal

pub returns-clause-some : goal.returns-clause-some
returns-clause-some c = has_spelling

pub returns-clause-one_value : goal.returns-clause-one_value
returns-clause-one_value c = one_form

pub returns-clause-not_both : goal.returns-clause-not_both
returns-clause-not_both c = never_both
