use Rattle.std.proofs.{Common.{rules, ◌∙◌}, lemmas.Cmp.nat_list_cmp_total, lemmas.List.Sorted.ranks_by}
use Rattle.tier_core.specs.Classes.{sets_of}
use Rattle.symbol_class.specs.{ClassOrder.class_cmp, Held.width_of}
use Rattle.symbol_class.proofs.Pairs.{sorted_by_closure}
use Rattle.kind_orders.proofs.GroupSteps.{sorted_pieces, sorted_columns, sorted_differ}
use Rattle.kind_orders.proofs.joined_arcs.joined_classes.Goals as goal

pub returns-clause-pieces : goal.returns-clause-pieces
returns-clause-pieces c =
    sorted_pieces (width_of c.args.classes.now) c.in-Ok.joined.items c.sort_unstable_by.new.self.items
    c.sort_unstable_by.ensures.permutation c.in-Ok.ensures.pieces

pub returns-clause-columns : goal.returns-clause-columns
returns-clause-columns c column =
    sorted_columns c.in-Ok.joined.items c.sort_unstable_by.new.self.items c.sort_unstable_by.ensures.permutation column
    ∙ c.in-Ok.ensures.columns column

pub returns-clause-differ : goal.returns-clause-differ
returns-clause-differ c =
    sorted_differ c.in-Ok.joined.items c.sort_unstable_by.new.self.items c.sort_unstable_by.ensures.permutation
    c.in-Ok.ensures.differ

pub returns-clause-sorted : goal.returns-clause-sorted
returns-clause-sorted c =
    sorted_by_closure class_cmp c.sort_unstable_by.new.self.items
    (ranks_by nat_list_cmp_total sets_of) c.sort_unstable_by.ensures.sorted (λ a r f k. search rules)
