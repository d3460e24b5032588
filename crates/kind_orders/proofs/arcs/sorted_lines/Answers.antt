use Rattle.std.proofs.{Common.rules, lemmas.Cmp.nat_cmp_total, lemmas.List.Sorted.ranks_by}
use Rattle.std.specs.Ordering.{nat_cmp}
use Rattle.answer_text.specs.declared.automaton.ArcLine.{ArcLine}
use Rattle.symbol_class.proofs.Pairs.{sorted_by_closure}
use Rattle.kind_orders.proofs.GroupSteps.{targets_rise}
use Rattle.kind_orders.proofs.arcs.sorted_lines.Goals as goal

pub returns-clause-sorted : goal.returns-clause-sorted
returns-clause-sorted c =
    targets_rise c.sort_unstable_by.new.self.items
    (sorted_by_closure (λ (a b : ArcLine). nat_cmp a.target b.target) c.sort_unstable_by.new.self.items
    (ranks_by nat_cmp_total (λ (a : ArcLine). a.target)) c.sort_unstable_by.ensures.sorted
    (λ a r f k. search rules))
