use Rattle.std.proofs.Common.{length}
use Rattle.tier_core.specs.Classes.{sets_of}
use Rattle.symbol_class.proofs.PartSteps.{adds_inside}
use Rattle.symbol_class.proofs.sharing.push_inside.Goals as goal

pub returns : goal.returns
returns c =
    adds_inside (length (sets_of c.args.class.now)) (length (sets_of c.meet-inside.result)) c.args.pieces.now.items
    c.push_minus.new.pieces.items c.args.class.now c.meet-inside.result c.args.test.now
    c.meet-inside.ensures.columns c.meet-inside.ensures.width c.in_ok-push_minus.ensures.held
