use Rattle.std.proofs.Common.{length, arith}
use Rattle.arc_table.specs.States.{states_of}
use Rattle.stage_tables.proofs.Alike.{alike_targets, alike_filled, alike_width, alike_disjoint}
use Rattle.stage_tables.proofs.RankedStates.{are_alike, is_ranked}
use Rattle.stage_tables.proofs.ranking.ranked_table.Goals as goal

pub of_states-requires : goal.of_states-requires
of_states-requires c =
    let found = c.args.found.now in
    let old = found.table in
    let states = c.in-Ok.states.items in
    let alike = are_alike c.args.frame.now found.kinds.items (states_of old) c.requires states c.in-Ok.ensures in
    record {
      some = omega (arith, c.in-Ok.ensures.count, old.some);
      few = omega (arith, c.in-Ok.ensures.count, old.few);
      targets = alike_targets (states_of old) states alike old.targets;
      disjoint = alike_disjoint (states_of old) states alike old.disjoint;
      filled = alike_filled (states_of old) states alike old.filled;
      one_width = alike_width (states_of old) states alike old.one_width;
    }

pub returns-in-Ok : goal.returns-in-Ok
returns-in-Ok c =
    let found = c.args.found.now in
    let states = c.in-Ok.states.items in
    rw c.of_states.ensures (is_ranked _ _ _ c.requires _ c.in-Ok.ensures)
