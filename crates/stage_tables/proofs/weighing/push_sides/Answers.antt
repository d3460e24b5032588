use Rattle.std.proofs.Common.{List, not, ◌&&◌, length, subst}
use Rattle.tier_core.specs.{declared.class.Class.Class, Classes.{sets_of, has}}
use Rattle.symbol_class.specs.{Held.{once_if, AddsClasses}, Parts.differs}
use Rattle.stage_tables.specs.Weighing.{AddsMoves}
use Rattle.stage_tables.proofs.WeighedMoves.{sides_weighed}
use Rattle.stage_tables.proofs.weighing.push_sides.Goals as goal

pub returns : goal.returns
returns c =
    let arc = c.args.arc.now in
    let test = c.args.test.now in
    let width = length (sets_of arc.class) in
    let old = c.args.moves.now.items in
    let mid = c.push_moves.new.moves.items in
    let new = c.push_moves-2.new.moves.items in
    let outside = c.push_outside.new.pieces.items in
    let inside = c.push_inside.new.pieces.items in
    sides_weighed arc test outside inside old mid new
    (subst (λ (xs : List Class). AddsClasses width xs outside
    (λ column. once_if (has arc.class column && not (differs test column))))
    c.new-outside.ensures.items c.in_ok-push_outside.ensures)
    (subst (λ (xs : List Class). AddsMoves arc.target 0 xs old mid) c.deref.ensures.value c.in_ok-push_moves.ensures)
    (subst (λ (xs : List Class). AddsClasses width xs inside
    (λ column. once_if (has arc.class column && differs test column)))
    c.new-inside.ensures.items c.in_ok-push_inside.ensures)
    (subst (λ (xs : List Class). AddsMoves arc.target 1 xs mid new) c.deref-2.ensures.value
    c.in_ok-push_moves-2.ensures)
