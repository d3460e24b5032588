use Rattle.std.proofs.{Common.{refl, subst}, lemmas.Bool.false≢true}
use Rattle.answer_reader.specs.{Reading.answer_of, Steps.Fails}
use Rattle.cert_check.specs.{FirstFaults.asked_by, Verdicts.IsVerdict}
use Rattle.otp_tool.proofs.CheckLemmas.{is_not_yes, is_yes, not_judged}
use Rattle.otp_tool.proofs.sample_check.is_faultless.Goals as goal

pub returns-in-Err-At : goal.returns-in-Err-At
returns-in-Err-At c = (
  (λ f. absurd (false≢true f)),
  (λ j. absurd (not_judged _ _ c.requires.within _ c.requires.shape _ (rw c.in-Err-At.field-0-is
      at c.in-Err-At.ensures.err) j)),
)

pub returns-in-Yes : goal.returns-in-Yes
returns-in-Yes c = (
  (λ t. is_yes _ _ c.requires.within _ c.requires.shape _ c.in-Ok.ensures.ok c.in-Ok.ensures.readable
      (rw c.in-Yes.is at c.in_ok-check.ensures.verdict)),
  (λ j. refl),
)

pub returns : goal.returns
returns c = (
  (λ f. absurd (false≢true f)),
  (λ j. absurd (is_not_yes _ _ c.requires.within _ c.requires.shape _ c.in-Ok.ensures.ok c.in-Ok.ensures.readable _
      (rw c.in-No.is at c.in_ok-check.ensures.verdict) j)),
)
