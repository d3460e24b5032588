use Rattle.std.proofs.Common.{◌≢◌, ℕ, List, length, subst, rules}
use Rattle.tier_core.specs.Tables.{tiers_of_table}
use Rattle.timeline_text.specs.{declared.form_err.FormErr.TheVariants.NoMemory, Texts.IsTextOf, Causes.IsCause}
use Rattle.otp_tool.proofs.HearingLemmas.{is_read, refused_surface}
use Rattle.otp_tool.proofs.hearing.surface_of.Goals as goal

pub returns-in-Ok-clause-ok : goal.returns-in-Ok-clause-ok
returns-in-Ok-clause-ok c = is_read c.args.grammar.now _ _ (rw c.as_bytes.ensures.value at c.in-Ok.ensures.ok)

pub returns-in-Err-clause-err : goal.returns-in-Err-clause-err
returns-in-Err-clause-err c =
    let other : c.in-Err.cause ≢ NoMemory = search rules in
    refused_surface c.args.grammar.now _ _ (rw c.as_bytes.ensures.value at (c.in-Err.ensures.err other))
