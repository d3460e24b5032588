use Rattle.std.proofs.Common.{sym, subst}
use Rattle.tier_core.specs.KindShapes.{FitsShape}
use Rattle.kind_orders.proofs.Orders.{fits_numbered}
use Rattle.kind_orders.proofs.order.cmp_numbers.Goals as goal

pub kind_cmp-requires-clause-fits_a : goal.kind_cmp-requires-clause-fits_a
kind_cmp-requires-clause-fits_a c =
    subst (FitsShape c.args.shape.now c.args.stage) (sym c.kind_of.ensures)
    (fits_numbered c.args.shape.now c.args.stage c.args.kinds.now c.requires.stage c.requires.fit c.args.a)

pub kind_cmp-requires-clause-fits_b : goal.kind_cmp-requires-clause-fits_b
kind_cmp-requires-clause-fits_b c =
    subst (FitsShape c.args.shape.now c.args.stage) (sym c.kind_of-2.ensures)
    (fits_numbered c.args.shape.now c.args.stage c.args.kinds.now c.requires.stage c.requires.fit c.args.b)
