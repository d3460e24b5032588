use Rattle.std.proofs.Common.{ap, ◌∙◌, arith}
use Rattle.tier_core.specs.Classes.{sets_of, sets_have}
use Rattle.tier_core.proofs.ClassSets.{width_is}
use Rattle.kind_moves.proofs.BoxSets.{empty_have}
use Rattle.kind_moves.proofs.boxes.nothing.Goals as goal

pub returns-clause-columns : goal.returns-clause-columns
returns-clause-columns c column =
    let class = c.args.class.now in
    ap (λ sets. sets_have sets column) c.with_set.ensures ∙ empty_have (sets_of class) column
    (omega (arith, width_is class, class.some))
