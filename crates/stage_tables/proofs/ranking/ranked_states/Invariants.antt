use Rattle.arc_table.specs.States.{states_of}
use Rattle.stage_tables.specs.Ranking.{AreRankedStates}
use Rattle.stage_tables.proofs.ranking.ranked_states.Given as goal

abbrev pub invariant-loop-state : goal.invariant-loop-state
invariant-loop-state l = record {
  made : AreRankedStates l.frame l.found.kinds.items (states_of l.found.table) l.states.items l.state;
}
