use Rattle.lexicon.proofs.LexiconLemmas.{has_lexicon, not_both, one_cause, one_lexicon}
use Rattle.lexicon.proofs.reading.each_file_has_one_lexicon.Goals as goal

pub returns-clause-some : goal.returns-clause-some
returns-clause-some c = has_lexicon

pub returns-clause-one_lexicon : goal.returns-clause-one_lexicon
returns-clause-one_lexicon c = one_lexicon

pub returns-clause-one_cause : goal.returns-clause-one_cause
returns-clause-one_cause c = one_cause

pub returns-clause-not_both : goal.returns-clause-not_both
returns-clause-not_both c = not_both
