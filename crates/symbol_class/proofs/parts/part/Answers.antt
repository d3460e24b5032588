use Rattle.std.proofs.Common.{List, All, length, subst}
use Rattle.tier_core.specs.{declared.class.Class.Class, Classes.sets_of}
use Rattle.symbol_class.specs.Parts.{differs, IsAlike}
use Rattle.symbol_class.proofs.PartSteps.{parted_same}
use Rattle.symbol_class.proofs.parts.part.Goals as goal

pub returns-then-are_whole : goal.returns-then-are_whole
returns-then-are_whole c =
    parted_same (length (sets_of c.args.test.now.within)) (differs c.args.test.now) c.args.classes.items c.requires
    (subst (λ (xs : List Class). All (IsAlike (differs c.args.test.now)) xs) c.deref.ensures.value
    (c.are_whole.ensures c.if-are_whole.true))
