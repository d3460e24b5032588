use Rattle.std.proofs.Common.{◌≡◌, ℕ, List, sym, subst, arith}
use Rattle.tier_core.specs.declared.sym.Sym.{Sym}
use Rattle.violation.specs.Problems.{problem_from}
use Rattle.answer_text.specs.Sound.{IsSound}
use Rattle.check_laws.proofs.RightAnswers.{sound_from_right}
use Rattle.ranked_gen.specs.Budgets.{IsFirstOver}
use Rattle.comprehend.proofs.FewStates.{few_states}
use Rattle.comprehend.proofs.hearing.hear.Goals as goal

pub has_surface-requires-clause-sound : goal.has_surface-requires-clause-sound
has_surface-requires-clause-sound c =
    let tiers = c.args.grammar.now.tiers in
    let constraints = c.args.grammar.now.constraints.items in
    let answer = c.in-Ok.answer in
    let P : List (List Sym) → Type 0 = λ f. IsSound (problem_from tiers constraints f) answer in
    subst P (sym c.in-Ok.ensures.right.form)
    (sound_from_right (problem_from tiers constraints c.args.form.now) answer c.in-Ok.ensures.right)

pub has_surface-requires-clause-few : goal.has_surface-requires-clause-few
has_surface-requires-clause-few c =
    let few = few_states
    (problem_from c.args.grammar.now.tiers c.args.grammar.now.constraints.items c.args.form.now) c.in-Ok.answer
    c.args.budget c.in-Ok.ensures.right c.in-Ok.ensures.within in
    omega (arith, few, c.requires.few)

pub returns-in-Err-Budget-clause-over : goal.returns-in-Err-Budget-clause-over
returns-in-Err-Budget-clause-over c = λ i stage e.
    (let same : c.in-Err-Budget.stage ≡ stage = cc in
    let P : ℕ → Type 0 = λ s. IsFirstOver
    (problem_from c.args.grammar.now.tiers c.args.grammar.now.constraints.items c.args.form.now) c.args.budget s in
    subst P same (c.generate.ensures.over c.in-Err-Budget.stage (cc)))
