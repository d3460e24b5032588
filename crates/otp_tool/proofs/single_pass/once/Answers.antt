use Rattle.std.proofs.Common.{inl, refl}
use Rattle.otp_tool.proofs.OnceLemmas.{no_form_once, no_pass, pass_written}
use Rattle.otp_tool.proofs.single_pass.once.Goals as goal

pub returns-in-Err-clause-step : goal.returns-in-Err-clause-step
returns-in-Err-clause-step g c =
    inl (no_form_once c.args.grammar.now c.args.form.now c.args.budget _ c.in-Err.ensures.err, refl)

pub returns-in-Err-once_for-clause-step : goal.returns-in-Err-once_for-clause-step
returns-in-Err-once_for-clause-step g c =
    inl (
      no_pass c.args.grammar.now _ _ _ c.in-Ok.ensures.ok _ c.in-Err-once_for.ensures.err,
      refl,
    )

pub returns-in-Ok-shape-clause-step : goal.returns-in-Ok-shape-clause-step
returns-in-Ok-shape-clause-step g c = pass_written _ _ _ _ c.in-Ok.ensures.ok _ c.in-Ok-once_for.ensures.right
    c.in-Ok-once_for.ensures.joined c.in-Ok-once_for.ensures.within _ c.in-Ok-shape.ensures _ c.put_once.ensures _
    c.write_status.ensures
