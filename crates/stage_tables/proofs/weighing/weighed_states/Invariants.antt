use Rattle.arc_table.specs.States.{states_of}
use Rattle.stage_tables.specs.Weighing.{cost_from, AreWeighedStates}
use Rattle.stage_tables.proofs.weighing.weighed_states.Given as goal

abbrev pub invariant-loop-state : goal.invariant-loop-state
invariant-loop-state l = record {
  made : AreWeighedStates (cost_from l.frame l.stage l.kinds) (states_of l.kept) l.states.items l.state;
}
