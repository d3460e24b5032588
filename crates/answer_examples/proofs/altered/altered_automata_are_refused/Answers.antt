use Rattle.std.proofs.Common.{refl}
use Rattle.answer_examples.proofs.AnswerTests.{refused_automaton}
use Rattle.answer_examples.proofs.altered.altered_automata_are_refused.Goals as goal

pub returns-clause-last_state_taken_out : goal.returns-clause-last_state_taken_out
returns-clause-last_state_taken_out c one max dep answer s = refused_automaton s refl

pub returns-clause-start_taken_out : goal.returns-clause-start_taken_out
returns-clause-start_taken_out c one max dep answer s = refused_automaton s refl

pub returns-clause-mark_taken_out : goal.returns-clause-mark_taken_out
returns-clause-mark_taken_out c one max dep answer s = refused_automaton s refl

pub returns-clause-mark_added : goal.returns-clause-mark_added
returns-clause-mark_added c one max dep answer s = refused_automaton s refl

pub returns-clause-start_marked : goal.returns-clause-start_marked
returns-clause-start_marked c one max dep answer s = refused_automaton s refl

pub returns-clause-column_in_two_arcs : goal.returns-clause-column_in_two_arcs
returns-clause-column_in_two_arcs c one max dep answer s = refused_automaton s refl

pub returns-clause-another_target : goal.returns-clause-another_target
returns-clause-another_target c one max dep answer s = refused_automaton s refl

pub returns-clause-arc_taken_out : goal.returns-clause-arc_taken_out
returns-clause-arc_taken_out c one max dep answer s = refused_automaton s refl

pub returns-clause-arc_added : goal.returns-clause-arc_added
returns-clause-arc_added c one max dep answer s = refused_automaton s refl

pub returns-clause-arc_on_all_columns : goal.returns-clause-arc_on_all_columns
returns-clause-arc_on_all_columns c one max dep answer s = refused_automaton s refl

pub returns-clause-edge_added : goal.returns-clause-edge_added
returns-clause-edge_added c one max dep answer s = refused_automaton s refl
