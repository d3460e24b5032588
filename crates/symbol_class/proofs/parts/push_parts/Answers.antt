use Rattle.std.proofs.Common.{length}
use Rattle.tier_core.specs.Classes.{sets_of}
use Rattle.symbol_class.specs.Parts.{differs}
use Rattle.symbol_class.proofs.PartSteps.{adds_whole, adds_parts}
use Rattle.symbol_class.proofs.parts.push_parts.Goals as goal

pub returns-then-not-is_parted : goal.returns-then-not-is_parted
returns-then-not-is_parted c =
    adds_whole
    (length (sets_of c.args.class.now)) c.args.parts.now.items c.push_filled.new.pieces.items c.args.class.now
    (differs c.args.test.now)
    (c.is_parted.ensures c.if-not-is_parted.true) c.in_ok-push_filled.ensures.held

pub returns : goal.returns
returns c =
    adds_parts (length (sets_of c.args.class.now)) c.args.parts.now.items c.push_outside.new.pieces.items
    c.push_inside.new.pieces.items c.args.class.now c.args.test.now
    c.in_ok-push_outside.ensures c.in_ok-push_inside.ensures
