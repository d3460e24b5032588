use Rattle.std.proofs.Common.{sym}
use Rattle.answer_reader.specs.Orders.{state_less}
use Rattle.answer_text.specs.Values.{state_value}
use Rattle.answer_reader.proofs.Follows.{follows_seen}
use Rattle.answer_reader.proofs.order.state_follows.Goals as goal

pub returns-in-Some : goal.returns-in-Some
returns-in-Some c =
    let it = rw c.in-Some.is at c.last.ensures.item in
    sym (follows_seen _ _ _ _ _ it.3.0 it.1)
