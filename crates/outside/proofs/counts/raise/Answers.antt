use Rattle.std.proofs.{Common.arith, lemmas.Map.Text.text_keys}
use Rattle.outside.proofs.counts.raise.Goals as goal

pub returns-in-Some-clause-others : goal.returns-in-Some-clause-others
returns-in-Some-clause-others c = λ other differs. grind (arith, text_keys)

pub returns-in-Some-clause-never_falls : goal.returns-in-Some-clause-never_falls
returns-in-Some-clause-never_falls c = λ other. grind (arith, text_keys)
