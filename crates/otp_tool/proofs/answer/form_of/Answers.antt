use Rattle.std.proofs.Common.{◌≢◌, ℕ, List, length, subst, rules}
use Rattle.tier_core.specs.Tables.{tiers_of_table}
use Rattle.timeline_text.specs.declared.form_err.FormErr.TheVariants.{NoMemory}
use Rattle.form_reader.specs.Forms.{IsReadAs, IsRefusedFor}
use Rattle.otp_tool.proofs.StepLemmas.{asks, refused_for}
use Rattle.otp_tool.proofs.answer.form_of.Goals as goal

pub returns-in-Ok-clause-ok : goal.returns-in-Ok-clause-ok
returns-in-Ok-clause-ok c = asks c.args.grammar.now _ _ (rw c.as_bytes.ensures.value at c.in-Ok.ensures.ok)

pub returns-in-Err-clause-err : goal.returns-in-Err-clause-err
returns-in-Err-clause-err c =
    let other : c.in-Err.cause ≢ NoMemory = search rules in
    refused_for c.args.grammar.now c.args.word.now _ (rw c.as_bytes.ensures.value at (c.in-Err.ensures.err other))
