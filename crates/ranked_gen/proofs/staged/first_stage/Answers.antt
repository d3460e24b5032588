use Rattle.std.proofs.Common.{◌≡◌}
use Rattle.arc_table.specs.States.{states_of}
use Rattle.ranked_gen.proofs.{FirstStage.{zero_table, zero_within, zero_over}, StageKinds.whatever_ok}
use Rattle.ranked_gen.proofs.staged.first_stage.Goals as goal

pub prune-requires-clause-table : goal.prune-requires-clause-table
prune-requires-clause-table c =
    rw c.deref.ensures.value
    (zero_table c.args.frame.now c.in-Ok.found.kinds.items (states_of c.in-Ok.found.table) c.in-Ok.ensures.complete)

pub prune-requires-clause-fit : goal.prune-requires-clause-fit
prune-requires-clause-fit c = rw c.deref.ensures.value c.in-Ok.ensures.complete.fit

pub returns-in-Ok-clause-within : goal.returns-in-Ok-clause-within
returns-in-Ok-clause-within c =
    whatever_ok _ _
    (zero_within c.args.frame.now c.in-Ok.found.kinds.items
    (states_of c.in-Ok.found.table) c.args.budget c.in-Ok.ensures.complete c.in-Ok.ensures.few)

pub returns-in-Err-OverBudget-clause-over : goal.returns-in-Err-OverBudget-clause-over
returns-in-Err-OverBudget-clause-over c = λ s e.
    let same : s ≡ 0 = cc in
    (same, zero_over c.args.frame.now c.args.budget (c.in-Err-OverBudget.ensures.over c.in-Err-OverBudget.field-0-is))
