use Rattle.std.proofs.Common.{length, ◌∙◌}
use Rattle.tier_core.specs.Classes.{sets_of}
use Rattle.symbol_class.proofs.PartSteps.{adds_outside}
use Rattle.symbol_class.proofs.sharing.push_outside.Goals as goal

pub returns : goal.returns
returns c =
    adds_outside (length (sets_of c.args.class.now)) (length (sets_of c.meet.result)) c.args.pieces.now.items
    c.push_minus.new.pieces.items c.push_filled.new.pieces.items c.args.class.now c.meet-inside.result c.meet.result
    c.args.test.now c.meet-inside.ensures.columns c.meet.ensures.columns
    (c.meet.ensures.width ∙ c.meet-inside.ensures.width)
    c.in_ok-push_minus.ensures.held c.in_ok-push_filled.ensures.held
