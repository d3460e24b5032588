use Rattle.std.proofs.Common.{◌≡◌, ◌+◌, ◌-◌, ◌≤◌, arith}
use Rattle.arc_table.specs.States.{states_of}
use Rattle.ranked_gen.proofs.{KindsLeft.left_same, NextStage.{stage_table, stage_within, stage_over}}
use Rattle.ranked_gen.proofs.StageKinds.{whatever_ok}
use Rattle.violation.specs.Problems.{last_stage}
use Rattle.kind_moves.specs.Frames.{problem_in}
use Rattle.ranked_gen.proofs.staged.next_stage.Goals as goal

pub weigh-requires-clause-kept : goal.weigh-requires-clause-kept
weigh-requires-clause-kept c =
    (left_same c.args.frame.now (c.args.stage - 1) c.args.stage (c.has_new_phase.ensures.0 c.if-not-has_new_phase.true)
    (states_of c.args.kept) c.args.kinds.now c.requires.kinds).by

pub weigh-requires-clause-fit : goal.weigh-requires-clause-fit
weigh-requires-clause-fit c =
    (left_same c.args.frame.now (c.args.stage - 1) c.args.stage (c.has_new_phase.ensures.0 c.if-not-has_new_phase.true)
    (states_of c.args.kept) c.args.kinds.now c.requires.kinds).fit

pub prune-requires-clause-table : goal.prune-requires-clause-table
prune-requires-clause-table c =
    stage_table c.args.frame.now c.args.stage c.requires.some c.requires.within
    (states_of c.args.kept) c.requires.accepts c.args.kinds.now (states_of c.in-Ok.table) c.in-Ok.ensures

pub returns-then-not-has_new_phase-clause-within : goal.returns-then-not-has_new_phase-clause-within
returns-then-not-has_new_phase-clause-within c =
    whatever_ok _ _
    (stage_within c.args.frame.now c.args.stage c.requires.some c.requires.within
    (states_of c.args.kept) c.requires.accepts c.args.kinds.now
    (states_of c.in-Ok.table) c.args.budget c.in-Ok.ensures c.requires.few_kinds)

pub prune-requires-in-Ok-explore-clause-table : goal.prune-requires-in-Ok-explore-clause-table
prune-requires-in-Ok-explore-clause-table c =
    rw c.deref.ensures.value
    (stage_table c.args.frame.now c.args.stage c.requires.some c.requires.within
    (states_of c.args.kept) c.requires.accepts c.in-Ok-explore.found.kinds.items
    (states_of c.in-Ok-explore.found.table) c.in-Ok-explore.ensures.explored)

pub prune-requires-in-Ok-explore-clause-fit : goal.prune-requires-in-Ok-explore-clause-fit
prune-requires-in-Ok-explore-clause-fit c = rw c.deref.ensures.value c.in-Ok-explore.ensures.explored.fit

pub returns-in-Ok-explore-clause-within : goal.returns-in-Ok-explore-clause-within
returns-in-Ok-explore-clause-within c =
    whatever_ok _ _
    (stage_within c.args.frame.now c.args.stage c.requires.some c.requires.within
    (states_of c.args.kept) c.requires.accepts c.in-Ok-explore.found.kinds.items
    (states_of c.in-Ok-explore.found.table) c.args.budget c.in-Ok-explore.ensures.explored
    c.in-Ok-explore.ensures.few)

pub returns-in-Err-OverBudget-clause-over : goal.returns-in-Err-OverBudget-clause-over
returns-in-Err-OverBudget-clause-over c = λ s e.
    let same : s ≡ c.args.stage = cc in
    let next : (c.args.stage - 1) + 1 ≡ c.args.stage = omega (arith, c.requires.some) in
    let room : (c.args.stage - 1) + 1 ≤ last_stage (problem_in c.args.frame.now) = omega
    (arith, next, c.requires.within) in
    let kept = c.args.kept in (
      same,
      stage_over c.args.frame.now (c.args.stage - 1) room
          (states_of kept) kept.some kept.targets kept.filled c.requires.kept c.requires.accepts c.args.budget
          c.args.stage next (c.in-Err-OverBudget.ensures.over c.in-Err-OverBudget.field-0-is),
    )
