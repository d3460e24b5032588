use Rattle.std.proofs.{Common.{◌≡◌, ℕ, List, sym, subst, arith}, lemmas.List.{length-map, take_all}}
use Rattle.std.proofs.lemmas.Result.{err_from_is_err_and}
use Rattle.tier_core.specs.declared.sym.Sym.{Sym}
use Rattle.violation.specs.Problems.{Problem, problem_from}
use Rattle.lexicon.specs.declared.entry.Entry.{Entry}
use Rattle.comprehend.specs.declared.comp_err.CompErr.TheVariants.{Budget}
use Rattle.comprehend.specs.Hears.{forms_of, Hears, AreEntriesWithin, IsFirstEntryOver}
use Rattle.comprehend.proofs.Hits.{form_at, hears_nothing, hears_next, hits_inside, within_more, over_here}
use Rattle.comprehend.proofs.hearing.comprehend.Goals as goal

pub loop-index-init : goal.loop-index-init
loop-index-init c = record {
  hears = rw c.new-hits.ensures.items (hears_nothing
      (problem_from c.args.grammar.now.tiers c.args.grammar.now.constraints.items)
      (forms_of c.args.lexicon.now) c.args.surface.now);
  within = λ k form e. absurd (let f : ⊥ = cc in f);
}

pub returns-in_err-heard-clause-over : goal.returns-in_err-heard-clause-over
returns-in_err-heard-clause-over c = λ index stage e.
    (let p = err_from_is_err_and c.from_residual.result c.from_residual.ensures.1 in
    let same : p.0 ≡ c.in_err-heard.field-0.0 = p.2 in
    let is : c.in_err-heard.field-0.0 ≡ Budget index stage = cc p.1 in
    let ask : List (List Sym) → Problem = problem_from c.args.grammar.now.tiers c.args.grammar.now.constraints.items in
    let forms = forms_of c.args.lexicon.now in
    let i = c.loop-index.index in
    let entry = c.index-lexicon-index.result in
    let here : index ≡ i = c.in_err-heard.ensures.entry index stage (cc) in
    let P : ℕ → Type 0 = λ k. IsFirstEntryOver ask forms c.args.budget k stage in
    subst P (sym here) (over_here ask forms c.args.surface.now i entry.form
    (form_at c.args.lexicon.now i entry c.loop-index-test.true c.index-lexicon-index.is) c.args.budget stage
    c.loop-index.invariant.within (c.in_err-heard.ensures.over index stage (cc))))

pub loop-index-preserved : goal.loop-index-preserved
loop-index-preserved c =
    let ask : List (List Sym) → Problem = problem_from c.args.grammar.now.tiers c.args.grammar.now.constraints.items in
    let forms = forms_of c.args.lexicon.now in
    let i = c.loop-index.index in
    let entry = c.index-lexicon-index.result in
    let at = form_at c.args.lexicon.now i entry c.loop-index-test.true c.index-lexicon-index.is in
    record {
      hears = hears_next ask forms c.args.surface.now i entry.form at c.loop-index.hits.items
          c.push_heard.new.hits.items c.in_ok-heard.heard c.in_ok-heard.ensures.first
          c.in_ok-push_heard.ensures.pushed c.loop-index.invariant.hears;
      within = within_more ask forms c.args.surface.now i entry.form at c.args.budget c.loop-index.invariant.within
          c.in_ok-heard.ensures.within;
    }

pub returns-clause-within : goal.returns-clause-within
returns-clause-within c =
    let ask : List (List Sym) → Problem = problem_from c.args.grammar.now.tiers c.args.grammar.now.constraints.items in
    let forms = forms_of c.args.lexicon.now in
    let P : List (List (List Sym)) → Type 0 = λ xs. AreEntriesWithin ask xs c.args.budget in
    subst P (take_all c.loop-index.index forms
    (omega (
      arith,
      c.loop-index-test.false,
      length-map c.args.lexicon.now (λ (e : Entry). e.form),
    ))) c.loop-index.invariant.within

pub returns-clause-entries : goal.returns-clause-entries
returns-clause-entries c =
    let ask : List (List Sym) → Problem = problem_from c.args.grammar.now.tiers c.args.grammar.now.constraints.items in
    let forms = forms_of c.args.lexicon.now in
    let hits = c.loop-index.hits.items in
    let P : List (List (List Sym)) → Type 0 = λ xs. Hears ask xs c.args.surface.now hits in
    hits_inside ask c.args.lexicon.now c.args.surface.now hits (subst P (take_all c.loop-index.index forms
    (omega (
      arith,
      c.loop-index-test.false,
      length-map c.args.lexicon.now (λ (e : Entry). e.form),
    ))) c.loop-index.invariant.hears)
