use Rattle.std.proofs.Common.{◌≡◌, sym, ◌∙◌, arith}
use Rattle.arc_table.specs.States.{states_of}
use Rattle.violation.specs.Problems.{last_stage}
use Rattle.kind_moves.specs.Frames.{problem_in}
use Rattle.ranked_gen.specs.FittingKinds.{HaveFittingKindsOnce}
use Rattle.ranked_gen.proofs.{StageKinds.whatever_ok, OnceTables.{whole_table, whole_within, whole_over}}
use Rattle.ranked_gen.proofs.MappedErrors.{kept_by_map_err}
use Rattle.answer_text.specs.declared.once_answer.OnceAnswer.{OnceAnswer}
use Rattle.kind_orders.specs.JoinedArcs.{HaveJoinedArcs}
use Rattle.ranked_gen.proofs.once.once_in.Goals as goal

pub once_answer-requires : goal.once_answer-requires
once_answer-requires c =
    let frame = c.args.frame.now in
    let found = c.in-Ok.found in
    let number : c.len-stage.result ≡ last_stage (problem_in frame) = omega
    (arith, c.len-stage.ensures, frame.grammar.now.constraints.ok) in
    whole_table frame c.len-stage.result number found.kinds.items
    (states_of found.table) c.in-Ok.ensures.complete

pub returns-in-Ok-clause-within : goal.returns-in-Ok-clause-within
returns-in-Ok-clause-within c =
    let frame = c.args.frame.now in
    let found = c.in-Ok.found in
    let number : c.len-stage.result ≡ last_stage (problem_in frame) = omega
    (arith, c.len-stage.ensures, frame.grammar.now.constraints.ok) in
    let whole = whole_table frame c.len-stage.result number found.kinds.items
    (states_of found.table) c.in-Ok.ensures.complete in
    whatever_ok _ _ (whole_within frame found.kinds.items
    (states_of found.table) whole c.args.budget c.in-Ok.ensures.few)

pub returns-in-Err-OverBudget-clause-over : goal.returns-in-Err-OverBudget-clause-over
returns-in-Err-OverBudget-clause-over c = λ stage e.
    let frame = c.args.frame.now in
    let number : c.len-stage.result ≡ last_stage (problem_in frame) = omega
    (arith, c.len-stage.ensures, frame.grammar.now.constraints.ok) in
    let same : c.len-stage.result ≡ stage = cc in (
      sym same ∙ number,
      whole_over frame c.len-stage.result number c.args.budget
          (c.in-Err-OverBudget.ensures.over c.in-Err-OverBudget.field-0-is),
    )

pub returns-in-Ok-clause-joined : goal.returns-in-Ok-clause-joined
returns-in-Ok-clause-joined c =
    kept_by_map_err c.once_answer.result c.map_err.result
    (λ (answer : OnceAnswer). HaveJoinedArcs answer.automaton.states.items) _ c.map_err.ensures.cases
    c.map_err.ensures.variant c.once_answer.ensures.joined

pub returns-in-Ok-clause-fitting : goal.returns-in-Ok-clause-fitting
returns-in-Ok-clause-fitting c =
    kept_by_map_err c.once_answer.result c.map_err.result (HaveFittingKindsOnce (problem_in c.args.frame.now)) _
    c.map_err.ensures.cases c.map_err.ensures.variant c.once_answer.ensures.fitting
