-- What a verdict says: no fault is in the answer, or this fault comes first.
use Rattle.violation.specs.Problems.{Problem}
use Rattle.answer_text.specs.declared.answer.Answer.{Answer}
use Rattle.cert_check.specs.declared.fault.Verdict.{Verdict}
use Rattle.cert_check.specs.declared.fault.Verdict.TheVariants.{Yes, No}
use Rattle.cert_check.specs.FirstFaults.{IsFaultless, IsFirstFault}

abbrev pub IsVerdict : Problem → Answer → Verdict → Type 0
IsVerdict problem answer Yes = IsFaultless problem answer
IsVerdict problem answer (No fault) = IsFirstFault problem answer fault
