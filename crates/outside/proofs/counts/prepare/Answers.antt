use Rattle.std.proofs.{Common.arith, lemmas.Map.Text.text_keys}
use Rattle.outside.proofs.counts.prepare.Goals as goal

pub returns-in_ok-insert-clause-same : goal.returns-in_ok-insert-clause-same
returns-in_ok-insert-clause-same c = λ other. grind (arith, text_keys)
