use Rattle.arc_table.specs.States.{states_of}
use Rattle.stage_tables.specs.Weighing.{cost_from}
use Rattle.stage_tables.proofs.WeighedTables.{weighed_targets, weighed_filled, weighed_width, weighed_disjoint}
use Rattle.stage_tables.proofs.WeighedTables.{is_explored}
use Rattle.stage_tables.proofs.weighing.weigh.Goals as goal

pub of_states-requires-clause-targets : goal.of_states-requires-clause-targets
of_states-requires-clause-targets c =
    let kept = c.args.kept in
    weighed_targets _ _ kept.disjoint _ c.in-Ok.ensures kept.targets

pub of_states-requires-clause-disjoint : goal.of_states-requires-clause-disjoint
of_states-requires-clause-disjoint c =
    let kept = c.args.kept in
    weighed_disjoint (cost_from c.args.frame.now c.args.stage c.args.kinds.now) (states_of kept) kept.disjoint
    c.in-Ok.states.items c.in-Ok.ensures

pub of_states-requires-clause-filled : goal.of_states-requires-clause-filled
of_states-requires-clause-filled c =
    let kept = c.args.kept in
    weighed_filled _ _ kept.disjoint _ c.in-Ok.ensures

pub of_states-requires-clause-one_width : goal.of_states-requires-clause-one_width
of_states-requires-clause-one_width c =
    let kept = c.args.kept in
    weighed_width _ _ kept.disjoint _ c.in-Ok.ensures kept.one_width

pub returns-in-Ok : goal.returns-in-Ok
returns-in-Ok c =
    let kept = c.args.kept in
    rw c.of_states.ensures (is_explored _ _ _ kept.disjoint _ c.requires.kept c.requires.fit _ c.in-Ok.ensures)
