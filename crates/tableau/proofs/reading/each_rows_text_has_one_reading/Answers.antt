use Rattle.std.specs.Str.Lines.{lines}
use Rattle.tableau.proofs.Readings.{has_rows, never_both, one_list, one_refusal}
use Rattle.tableau.proofs.reading.each_rows_text_has_one_reading.Goals as goal

pub returns-clause-some : goal.returns-clause-some
returns-clause-some c = λ problem bytes. has_rows problem (lines bytes)

pub returns-clause-one_value : goal.returns-clause-one_value
returns-clause-one_value c = λ problem bytes rows others a b. one_list problem (lines bytes) rows others a b

pub returns-clause-one_cause : goal.returns-clause-one_cause
returns-clause-one_cause c = λ problem bytes m n e f r s. one_refusal c.each_text_has_one_reading.ensures.one_cause
    problem (lines bytes) m n e f r s

pub returns-clause-not_both : goal.returns-clause-not_both
returns-clause-not_both c = λ problem bytes rows n e a r. never_both problem (lines bytes) rows n e a r
