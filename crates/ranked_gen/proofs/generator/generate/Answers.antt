use Rattle.std.proofs.Common.{◌≡◌, length, IfOk, subst, arith}
use Rattle.violation.proofs.SplitLemmas.{tiers_split}
use Rattle.ranked_gen.specs.{Budgets.{AreAllWithin, HaveFewKinds, IsFirstOver}, FittingKinds.HaveFittingKinds}
use Rattle.ranked_gen.specs.Listed.{kind_count}
use Rattle.ranked_gen.proofs.{NumberedKinds.free_distinct, StageKinds.{counted_kinds, first_over}}
use Rattle.violation.specs.Problems.{problem_from}
use Rattle.ranked_gen.proofs.generator.generate.Goals as goal

pub returns-then-kinds-budget-clause-over : goal.returns-then-kinds-budget-clause-over
returns-then-kinds-budget-clause-over c = λ stage e.
    let g = c.args.grammar.now in
    let problem = problem_from g.tiers g.constraints.items c.args.form.now in
    let first : 0 ≡ stage = cc in
    let counted : c.count_kinds-kinds.result ≡ kind_count problem =
    counted_kinds _ _ _ (length problem.form) (length problem.tiers.free) c.count_kinds-kinds.ensures (omega arith)
    c.free_count-free.ensures.value in
    subst (λ s. IsFirstOver problem c.args.budget s) first
    (first_over problem (tiers_split g.tiers.kinds.items)
    (free_distinct g.tiers.kinds.items) c.requires.form c.args.budget
    (omega (arith, counted, c.if-kinds-budget.true)))

pub returns-in-Ok-clause-within : goal.returns-in-Ok-clause-within
returns-in-Ok-clause-within c =
    let made = c.in-Ok.ensures in
    let g = c.args.grammar.now in
    subst (λ u. IfOk c.answer_in.result (λ answer. AreAllWithin
    (problem_from g.tiers g.constraints.items u) c.args.budget)) made.form
    (subst (λ g. IfOk c.answer_in.result
    (λ answer. AreAllWithin
    (problem_from g.tiers g.constraints.items c.in-Ok.frame.form.now) c.args.budget)) made.grammar
    c.answer_in.ensures.within)

pub returns-in-Ok-clause-listed : goal.returns-in-Ok-clause-listed
returns-in-Ok-clause-listed c =
    let made = c.in-Ok.ensures in
    let g = c.args.grammar.now in
    subst (λ u. IfOk c.answer_in.result (λ answer. HaveFewKinds
    (problem_from g.tiers g.constraints.items u) c.args.budget)) made.form
    (subst (λ g. IfOk c.answer_in.result
    (λ answer. HaveFewKinds
    (problem_from g.tiers g.constraints.items c.in-Ok.frame.form.now) c.args.budget)) made.grammar
    c.answer_in.ensures.listed)

pub returns-in-Ok-clause-over : goal.returns-in-Ok-clause-over
returns-in-Ok-clause-over c = λ stage e.
    let made = c.in-Ok.ensures in
    let g = c.args.grammar.now in
    subst (λ u. IsFirstOver (problem_from g.tiers g.constraints.items u) c.args.budget stage) made.form
    (subst (λ g. IsFirstOver
    (problem_from g.tiers g.constraints.items c.in-Ok.frame.form.now) c.args.budget stage) made.grammar
    (c.answer_in.ensures.over stage e))

pub returns-in-Ok-clause-fitting : goal.returns-in-Ok-clause-fitting
returns-in-Ok-clause-fitting c =
    let made = c.in-Ok.ensures in
    let g = c.args.grammar.now in
    subst (λ u. IfOk c.answer_in.result (HaveFittingKinds (problem_from g.tiers g.constraints.items u))) made.form
    (subst (λ g. IfOk c.answer_in.result (HaveFittingKinds
    (problem_from g.tiers g.constraints.items c.in-Ok.frame.form.now))) made.grammar c.answer_in.ensures.fitting)
