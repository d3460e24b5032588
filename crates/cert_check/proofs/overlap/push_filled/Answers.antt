use Rattle.std.proofs.{Common.{sym, ◌∙◌}, lemmas.Bool.{not-true, not-false}}
use Rattle.cert_check.proofs.Gathering.{adds_empty, adds_one}
use Rattle.cert_check.proofs.overlap.push_filled.Goals as goal

pub returns-then-is_empty : goal.returns-then-is_empty
returns-then-is_empty c = adds_empty _ _ (not-true _ (sym c.is_empty.ensures.sets ∙ c.if-is_empty.true))

pub returns : goal.returns
returns c = adds_one _ _ _ c.in_ok-push.ensures.items (not-false _ (sym c.is_empty.ensures.sets ∙ c.if-is_empty.false))
