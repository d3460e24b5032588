use Rattle.std.proofs.Common.{◌≡◌, length, subst, arith}
use Rattle.kind_orders.proofs.Places.{ArePlaced, ranks_told, ranks_numbers}
use Rattle.kind_orders.proofs.inverse.ranks.Goals as goal

pub returns-clause-numbers : goal.returns-clause-numbers
returns-clause-numbers c =
    let order = c.args.order.now in
    let last : c.loop-place.place ≡ length order = omega
    (arith, c.loop-place-test.false, c.loop-place.auto.place-end) in
    ranks_numbers order c.requires c.loop-place.ranks.items
    (subst (λ n. ArePlaced order n c.loop-place.ranks.items) last c.loop-place.invariant)

pub returns-clause-told : goal.returns-clause-told
returns-clause-told c =
    let order = c.args.order.now in
    let last : c.loop-place.place ≡ length order = omega
    (arith, c.loop-place-test.false, c.loop-place.auto.place-end) in
    ranks_told order c.requires c.loop-place.ranks.items
    (subst (λ n. ArePlaced order n c.loop-place.ranks.items) last c.loop-place.invariant)
