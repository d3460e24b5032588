use Rattle.std.proofs.Common.{inl, refl}
use Rattle.otp_tool.proofs.CheckLemmas.{is_readable, no_answer_read, verdict_written}
use Rattle.otp_tool.specs.Steps.{taking_of}
use Rattle.otp_tool.proofs.checking.judge.Goals as goal

pub returns-in-Err-clause-step : goal.returns-in-Err-clause-step
returns-in-Err-clause-step g c = inl (inl (tt, refl))

pub returns-in-Err-answer_of-clause-step : goal.returns-in-Err-answer_of-clause-step
returns-in-Err-answer_of-clause-step g c = no_answer_read _ _ c.requires _ c.in-Ok.ensures _ refl _
    c.in-Err-answer_of.ensures.err

pub check-requires : goal.check-requires
check-requires g c = is_readable _ _ c.requires _ c.in-Ok.ensures _ c.in-Ok-answer_of.ensures.ok
    c.in-Ok-answer_of.ensures.readable

pub returns-in-Ok-check-clause-step : goal.returns-in-Ok-check-clause-step
returns-in-Ok-check-clause-step g c = verdict_written _ _ c.requires _ c.in-Ok.ensures _ c.in-Ok-answer_of.ensures.ok
    c.in-Ok-answer_of.ensures.readable _ c.in-Ok-check.ensures.verdict c.in-Ok-check.ensures.sound _
    c.put_verdict.ensures _ c.verdict_status.ensures
