use Rattle.std.proofs.Common.{refl, arith}
use Rattle.answer_examples.proofs.AnswerTests.{refused_stage}
use Rattle.answer_examples.proofs.altered.altered_stages_are_refused.Goals as goal

pub returns-clause-potential_at_stage_zero : goal.returns-clause-potential_at_stage_zero
returns-clause-potential_at_stage_zero c one max dep answer s = refused_stage s 0 (omega arith) refl

pub returns-clause-final_at_stage_zero : goal.returns-clause-final_at_stage_zero
returns-clause-final_at_stage_zero c one max dep answer s = refused_stage s 0 (omega arith) refl

pub returns-clause-potential_raised : goal.returns-clause-potential_raised
returns-clause-potential_raised c one max dep answer s = refused_stage s 1 (omega arith) refl

pub returns-clause-final_raised : goal.returns-clause-final_raised
returns-clause-final_raised c one max dep answer s = refused_stage s 1 (omega arith) refl

pub returns-clause-start_lowered : goal.returns-clause-start_lowered
returns-clause-start_lowered c one max dep answer s = refused_stage s 2 (omega arith) refl

pub returns-clause-phase_not_due : goal.returns-clause-phase_not_due
returns-clause-phase_not_due c one max dep answer s = refused_stage s 2 (omega arith) refl

pub returns-clause-phase_at_a_shut_tier : goal.returns-clause-phase_at_a_shut_tier
returns-clause-phase_at_a_shut_tier c one max dep answer s = refused_stage s 2 (omega arith) refl

pub returns-clause-node_taken_out : goal.returns-clause-node_taken_out
returns-clause-node_taken_out c one max dep answer s = refused_stage s 0 (omega arith) refl

pub returns-clause-cut_taken_out : goal.returns-clause-cut_taken_out
returns-clause-cut_taken_out c one max dep answer s = refused_stage s 1 (omega arith) refl

pub returns-clause-start_taken_out : goal.returns-clause-start_taken_out
returns-clause-start_taken_out c one max dep answer s = refused_stage s 0 (omega arith) refl

pub returns-clause-last_kind_taken_out : goal.returns-clause-last_kind_taken_out
returns-clause-last_kind_taken_out c one max dep answer s = refused_stage s 3 (omega arith) refl

pub returns-clause-node_twice : goal.returns-clause-node_twice
returns-clause-node_twice c one max dep answer s = refused_stage s 2 (omega arith) refl

pub returns-clause-nodes_exchanged : goal.returns-clause-nodes_exchanged
returns-clause-nodes_exchanged c one max dep answer s = refused_stage s 0 (omega arith) refl
