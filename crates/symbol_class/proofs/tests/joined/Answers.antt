use Rattle.std.proofs.Common.{List, sym, subst}
use Rattle.tier_core.specs.declared.class.Class.{Class}
use Rattle.symbol_class.specs.Held.{width_of, ArePieces}
use Rattle.symbol_class.proofs.{Times.pieces_front, JoinedClasses.pieces_of_width}
use Rattle.symbol_class.proofs.tests.joined.Goals as goal

pub join-requires : goal.join-requires
join-requires c =
    let parts = c.in_ok-parts.parts in
    subst (λ (classes : List Class). ArePieces (width_of classes) classes) (sym c.deref.ensures.value)
    (pieces_of_width _ parts.inside.items
    (pieces_front _ parts.inside.items parts.outside.items c.in_ok-parts.ensures.pieces))
