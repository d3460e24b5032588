use Rattle.std.proofs.Common.{List, ℕ, ap, ◌∙◌}
use Rattle.tier_core.specs.Classes.{sets_have}
use Rattle.cert_check.proofs.Sets.{all_have}
use Rattle.cert_check.proofs.boxes.all_columns.Goals as goal

pub returns-clause-columns : goal.returns-clause-columns
returns-clause-columns c column e = ap (λ (sets : List ℕ). sets_have sets column) c.of_bits.ensures ∙ all_have _ 12 _
    c.requires.few e
