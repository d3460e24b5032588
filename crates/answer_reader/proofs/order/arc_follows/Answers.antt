use Rattle.std.proofs.Common.{sym, ◌∙◌, ap}
use Rattle.std.specs.Ordering.{is_lt}
use Rattle.answer_reader.specs.Orders.{arc_less}
use Rattle.answer_text.specs.Values.{arc_value}
use Rattle.answer_reader.proofs.Follows.{follows_seen, less_told}
use Rattle.answer_reader.proofs.order.arc_follows.Goals as goal

pub returns-in-Some : goal.returns-in-Some
returns-in-Some c =
    let it = rw c.in-Some.is at c.last.ensures.item in
    let f = follows_seen _ _ _ _ _ it.3.0 it.1 in
    c.eq.ensures ∙ less_told _ ∙ ap is_lt c.arc_cmp.ensures ∙ sym f
