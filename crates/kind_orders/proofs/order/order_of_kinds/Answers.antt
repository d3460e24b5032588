use Rattle.std.proofs.{Common.{◌≡◌, ◌<◌, length, arith}, lemmas.Bool.Decides.nat_tests}
use Rattle.tier_core.specs.EmptyKind.{empty_kind}
use Rattle.kind_orders.proofs.Orders.{no_kinds}
use Rattle.kind_orders.proofs.order.order_of_kinds.Goals as goal

pub returns-then-is_empty : goal.returns-then-is_empty
returns-then-is_empty c =
    let none : length c.args.kinds.now ≡ 0 = grind (arith, nat_tests, c.if-is_empty.ensures) in
    rw c.new.ensures.items (no_kinds c.args.shape.now c.args.stage c.args.kinds.now none)

pub sorted_numbers-requires-clause-stage : goal.sorted_numbers-requires-clause-stage
sorted_numbers-requires-clause-stage c =
    let some : 0 < length c.args.kinds.now = grind (arith, nat_tests, c.if-is_empty.ensures) in
    (c.requires.found.fit 0 empty_kind some).within
