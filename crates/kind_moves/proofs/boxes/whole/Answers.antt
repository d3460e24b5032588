use Rattle.std.proofs.Common.{ap, ◌∙◌}
use Rattle.tier_core.specs.Classes.{sets_have}
use Rattle.kind_moves.proofs.BoxSets.{front_have}
use Rattle.kind_moves.proofs.boxes.whole.Goals as goal

pub returns-clause-columns : goal.returns-clause-columns
returns-clause-columns c column wide = ap (λ sets. sets_have sets column) c.of_bits.ensures
    ∙ front_have c.args.width column c.requires.few wide
