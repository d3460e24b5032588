use Rattle.std.proofs.Common.{length}
use Rattle.tier_core.specs.Classes.{sets_of}
use Rattle.symbol_class.specs.Parts.{differs}
use Rattle.symbol_class.proofs.PartSteps.{ArePartedBelow}
use Rattle.symbol_class.proofs.parts.parts.Given as goal

abbrev pub invariant-loop-class : goal.invariant-loop-class
invariant-loop-class l = ArePartedBelow (length (sets_of l.test.within))
    (differs l.test) l.classes l.class-index l.parts.items
