use Rattle.std.proofs.Common.{refl, arith}
use Rattle.answer_examples.proofs.AnswerTests.{refused_head, refused_stage, refused_automaton}
use Rattle.answer_examples.proofs.unranked.altered_answers_are_refused.Goals as goal

pub returns-clause-start_raised : goal.returns-clause-start_raised
returns-clause-start_raised c answer s = refused_stage s 0 (omega arith) refl

pub returns-clause-potential_raised : goal.returns-clause-potential_raised
returns-clause-potential_raised c answer s = refused_stage s 0 (omega arith) refl

pub returns-clause-node_taken_out : goal.returns-clause-node_taken_out
returns-clause-node_taken_out c answer s = refused_stage s 0 (omega arith) refl

pub returns-clause-start_taken_out : goal.returns-clause-start_taken_out
returns-clause-start_taken_out c answer s = refused_stage s 0 (omega arith) refl

pub returns-clause-stage_taken_out : goal.returns-clause-stage_taken_out
returns-clause-stage_taken_out c answer s = refused_head s refl

pub returns-clause-arc_taken_out : goal.returns-clause-arc_taken_out
returns-clause-arc_taken_out c answer s = refused_automaton s refl

pub returns-clause-mark_taken_out : goal.returns-clause-mark_taken_out
returns-clause-mark_taken_out c answer s = refused_automaton s refl

pub returns-clause-count_added : goal.returns-clause-count_added
returns-clause-count_added c answer s = refused_head s refl

pub returns-clause-no_candidate : goal.returns-clause-no_candidate
returns-clause-no_candidate c answer s = refused_head s refl
