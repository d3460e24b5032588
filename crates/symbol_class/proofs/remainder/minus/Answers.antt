use Rattle.std.proofs.Common.{List, length, not, ◌&&◌, ap, subst, arith}
use Rattle.tier_core.specs.{declared.class.Class.Class, Classes.{sets_of, has}}
use Rattle.symbol_class.specs.Held.{once_if, AddsClasses}
use Rattle.symbol_class.proofs.Times.{pieces_added, columns_added}
use Rattle.symbol_class.proofs.remainder.minus.Goals as goal

pub returns-in-Ok : goal.returns-in-Ok
returns-in-Ok c =
    let a = c.args.a.now in
    let b = c.args.b.now in
    let width = length (sets_of a) in
    let new = c.push_minus.new.pieces.items in
    let held = subst (λ (old : List Class). AddsClasses width old new
    (λ column. once_if (has a column && not (has b column)))) c.new-pieces.ensures.items c.in-Ok.ensures.held in
    record {
      pieces = pieces_added width new (λ column. has a column && not (has b column)) held;
      columns = columns_added width new (λ column. has a column && not (has b column)) held;
      few = omega (arith, c.in-Ok.ensures.few, ap (λ (xs : List Class). length xs) c.new-pieces.ensures.items);
    }
