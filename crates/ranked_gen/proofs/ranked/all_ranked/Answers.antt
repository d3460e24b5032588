use Rattle.std.proofs.Common.{◌≡◌, Err, ◌+◌, ◌-◌, ◌<◌, refl, ap, sym, subst, arith}
use Rattle.arc_table.specs.States.{states_of}
use Rattle.violation.specs.{Candidates.IsOptimalFor, Problems.last_stage}
use Rattle.ranked_gen.specs.{declared.gen_err.GenErr.TheVariants.Budget, Budgets.IsFirstOver, KindsLeft.AreKindsLeft}
use Rattle.ranked_gen.specs.Left.{IsRanked}
use Rattle.ranked_gen.proofs.{StageList.first_over, RankedSteps.ranked_next}
use Rattle.kind_moves.specs.Frames.{problem_in}
use Rattle.ranked_gen.proofs.ranked.all_ranked.Goals as goal

pub next_stage-requires-clause-accepts : goal.next_stage-requires-clause-accepts
next_stage-requires-clause-accepts c = λ T.
    let frame = c.args.frame.now in
    let before : c.loop-number.number ≡ c.loop-number.number + 1 - 1 = omega arith in
    let law = c.loop-number.invariant.ranked.left.accepts T in (
      λ a. subst (λ n. IsOptimalFor (problem_in frame) n T) before (law.0 a),
      λ o. law.1 (subst (λ n. IsOptimalFor (problem_in frame) n T) (sym before) o),
    )

pub next_stage-requires-clause-kinds : goal.next_stage-requires-clause-kinds
next_stage-requires-clause-kinds c =
    let frame = c.args.frame.now in
    let ranked = c.loop-number.ranked in
    let before : c.loop-number.number ≡ c.loop-number.number + 1 - 1 = omega arith in
    rw c.deref.ensures.value (subst (λ n. AreKindsLeft frame n (states_of ranked.left.kept.table) ranked.kinds.items)
    before c.loop-number.invariant.kinds)

pub next_stage-requires-clause-few_kinds : goal.next_stage-requires-clause-few_kinds
next_stage-requires-clause-few_kinds c = rw c.deref.ensures.value c.loop-number.invariant.few

pub returns-in-Err-clause-over : goal.returns-in-Err-clause-over
returns-in-Err-clause-over c = λ s e.
    let frame = c.args.frame.now in
    let inside : c.loop-number.number < last_stage (problem_in frame) = omega
    (arith, c.loop-number-test.true, c.loop-number.auto.number-end, c.len-number-end.ensures) in
    let same : c.in-Err.cause ≡ Budget s = cc in
    let over = c.in-Err.ensures.over s (ap Err same) in
    subst (λ n. IsFirstOver (problem_in frame) c.args.budget n) (sym over.0)
    (first_over
    (problem_in frame) c.args.budget c.loop-number.number c.loop-number.ranked.stages.items
    c.loop-number.ranked.counts.items c.loop-number.invariant.ranked.so_far
    (c.loop-number.number + 1) refl inside over.1)

pub loop-number-init : goal.loop-number-init
loop-number-init c = record { ranked = c.requires.start; kinds = c.requires.kinds; few = c.requires.few_kinds }

pub loop-number-preserved : goal.loop-number-preserved
loop-number-preserved c =
    let frame = c.args.frame.now in
    let inside : c.loop-number.number < last_stage (problem_in frame) = omega
    (arith, c.loop-number-test.true, c.loop-number.auto.number-end, c.len-number-end.ensures) in
    let next = c.in-Ok.next in
    let ranked = ranked_next
    (problem_in frame) c.args.budget c.loop-number.number c.loop-number.ranked.stages.items
    c.loop-number.ranked.counts.items c.loop-number.invariant.ranked.so_far
    next.stage next.count (c.loop-number.number + 1) refl inside
    (states_of next.left.kept.table) next.left.kept.states.items next.left.order.items c.in-Ok.ensures.staged
    c.in-Ok.ensures.within in
    rw (
      c.in-Ok-with_next.ensures.stages,
      c.in-Ok-with_next.ensures.counts,
      c.in-Ok-with_next.ensures.left,
      c.in-Ok-with_next.ensures.kinds,
    ) (record { ranked = ranked; kinds = c.in-Ok.ensures.kinds; few = c.in-Ok.ensures.few })

pub returns-clause-ranked : goal.returns-clause-ranked
returns-clause-ranked c =
    let frame = c.args.frame.now in
    let ranked = c.loop-number.ranked in
    let end : c.loop-number.number ≡ last_stage (problem_in frame) = omega
    (arith, c.loop-number-test.false, c.loop-number.auto.number-end, c.len-number-end.ensures) in
    subst (λ n. IsRanked (problem_in frame) c.args.budget n ranked.stages.items ranked.counts.items
    (states_of ranked.left.kept.table) ranked.left.kept.states.items ranked.left.order.items) end
    c.loop-number.invariant.ranked
