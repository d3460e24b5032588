use Rattle.std.proofs.Common.{◌≡◌, length, IfOk, subst, sym, ◌∙◌, arith}
use Rattle.violation.specs.{Problems.problem_from, Rests.AreWholeKindsWithin}
use Rattle.violation.proofs.SplitLemmas.{tiers_split}
use Rattle.ranked_gen.specs.{FittingKinds.HaveFittingKindsOnce, Listed.kind_count}
use Rattle.ranked_gen.proofs.{NumberedKinds.free_distinct, OnceBudgets.first_over_whole}
use Rattle.ranked_gen.proofs.StageKinds.{counted_kinds, first_over}
use Rattle.ranked_gen.proofs.once.generate_once.Goals as goal

pub returns-then-kinds-budget-clause-over : goal.returns-then-kinds-budget-clause-over
returns-then-kinds-budget-clause-over c = λ stage e.
    let g = c.args.grammar.now in
    let problem = problem_from g.tiers g.constraints.items c.args.form.now in
    let same : c.len-stage.result ≡ stage = cc in
    let number : c.len-stage.result ≡ length g.constraints.items = omega
    (arith, c.len-stage.ensures, g.constraints.ok) in
    let counted : c.count_kinds-kinds.result ≡ kind_count problem =
    counted_kinds _ _ _ (length problem.form) (length problem.tiers.free) c.count_kinds-kinds.ensures
    (omega arith) c.free_count-free.ensures.value in
    let first = first_over problem (tiers_split g.tiers.kinds.items)
    (free_distinct g.tiers.kinds.items) c.requires.form c.args.budget
    (omega (arith, counted, c.if-kinds-budget.true)) in
    (sym same ∙ number, first_over_whole problem c.args.budget first.over)

pub returns-in-Ok-clause-within : goal.returns-in-Ok-clause-within
returns-in-Ok-clause-within c =
    let made = c.in-Ok.ensures in
    let g = c.args.grammar.now in
    subst (λ u. IfOk c.once_in.result (λ answer. AreWholeKindsWithin
    (problem_from g.tiers g.constraints.items u) c.args.budget)) made.form
    (subst (λ g. IfOk c.once_in.result (λ answer. AreWholeKindsWithin
    (problem_from g.tiers g.constraints.items c.in-Ok.frame.form.now) c.args.budget)) made.grammar
    c.once_in.ensures.within)

pub returns-in-Ok-clause-fitting : goal.returns-in-Ok-clause-fitting
returns-in-Ok-clause-fitting c =
    let made = c.in-Ok.ensures in
    let g = c.args.grammar.now in
    subst (λ u. IfOk c.once_in.result (HaveFittingKindsOnce (problem_from g.tiers g.constraints.items u))) made.form
    (subst (λ g. IfOk c.once_in.result (HaveFittingKindsOnce
    (problem_from g.tiers g.constraints.items c.in-Ok.frame.form.now))) made.grammar c.once_in.ensures.fitting)
