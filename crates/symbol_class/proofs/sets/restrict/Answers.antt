use Rattle.std.proofs.Common.{set, bit_and, ap, ◌∙◌}
use Rattle.tier_core.specs.Classes.{sets_of, sets_have}
use Rattle.symbol_class.proofs.SetLists.{have-narrowed}
use Rattle.symbol_class.proofs.sets.restrict.Goals as goal

pub returns-clause-columns : goal.returns-clause-columns
returns-clause-columns c column =
    let sets = sets_of c.args.class.now in
    ap (λ xs. sets_have xs column) (c.with_set.ensures
    ∙ ap (λ n. set sets c.args.tier (bit_and n c.args.set)) c.bits.ensures.value)
    ∙ have-narrowed sets column c.args.tier c.args.set c.requires
