use Rattle.std.proofs.Common.{true, false}
use Rattle.symbol_class.specs.Parts.{differs}
use Rattle.symbol_class.proofs.PartSteps.{constant}
use Rattle.symbol_class.proofs.parts.is_parted.Goals as goal

pub returns-in-Nothing : goal.returns-in-Nothing
returns-in-Nothing c _ =
    constant (differs c.args.test.now) c.args.class.now false (c.share_of.ensures.nothing c.in-Nothing.is)

pub returns-in-Everything : goal.returns-in-Everything
returns-in-Everything c _ =
    constant (differs c.args.test.now) c.args.class.now true (c.share_of.ensures.everything c.in-Everything.is)
