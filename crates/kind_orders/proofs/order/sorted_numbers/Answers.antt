use Rattle.std.proofs.{Common.{subst, rules, IsPermutation}, lemmas.List.Sorted.ranks_by}
use Rattle.tier_core.specs.Kinds.{kind_order}
use Rattle.kind_orders.specs.KindOrders.{prefix_kind_at}
use Rattle.symbol_class.proofs.Pairs.{sorted_by_closure}
use Rattle.kind_orders.proofs.Orders.{is_kind_order}
use Rattle.tier_core.proofs.KindTies.{kind_order_total}
use Rattle.kind_orders.proofs.order.sorted_numbers.Goals as goal

pub returns : goal.returns
returns c =
    let shape = c.args.shape.now in
    let kinds = c.args.kinds.now in
    let sorted = c.sort_unstable_by.new.self.items in
    is_kind_order shape c.args.stage kinds c.requires.found sorted
    (subst (λ xs. IsPermutation xs sorted) c.in_ok-order.ensures c.sort_unstable_by.ensures.permutation)
    (sorted_by_closure (λ a b. kind_order (prefix_kind_at shape c.args.stage kinds a)
    (prefix_kind_at shape c.args.stage kinds b)) sorted
    (ranks_by kind_order_total (prefix_kind_at shape c.args.stage kinds)) c.sort_unstable_by.ensures.sorted
    (λ a r f k. search rules))
