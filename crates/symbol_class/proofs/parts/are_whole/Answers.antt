use Rattle.std.proofs.{Common.{All, subst}, lemmas.List.take_all, lemmas.List.Elements.All-more}
use Rattle.symbol_class.specs.Parts.{differs, IsAlike}
use Rattle.symbol_class.proofs.parts.are_whole.Goals as goal

pub loop-class-preserved : goal.loop-class-preserved
loop-class-preserved c = All-more (IsAlike (differs c.args.test.now)) c.args.classes.now c.loop-class.class-index
    c.class-item.result c.loop-class-test.true c.loop-class.invariant
    (subst (IsAlike (differs c.args.test.now)) c.class-item.is (c.is_parted.ensures c.if-is_parted.false))

pub returns : goal.returns
returns c = λ _. subst (All (IsAlike (differs c.args.test.now)))
    (take_all c.loop-class.class-index c.args.classes.now c.loop-class-test.false) c.loop-class.invariant
