use Rattle.stage_tables.proofs.WholeTables.{whole_states, whole_filled}
use Rattle.stage_tables.proofs.whole.whole_table.Goals as goal

pub of_states-requires-clause-filled : goal.of_states-requires-clause-filled
of_states-requires-clause-filled c =
    let move = c.in_ok-every_move.ensures in
    whole_filled _ _ (whole_states _ _ _ _ _ c.new-states.ensures.items c.in_ok-push.ensures.items move.1 move.2)

pub returns : goal.returns
returns c =
    let move = c.in_ok-every_move.ensures in
    rw c.of_states.ensures (whole_states _ _ _ _ _ c.new-states.ensures.items c.in_ok-push.ensures.items move.1 move.2)
