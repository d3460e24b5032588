use Rattle.std.proofs.Common.{◌≡◌, ℕ, ◌+◌, ◌-◌, ◌++◌, List, [], ◌∷◌, sym, ap, subst, ◌∙◌, append_assoc, arith}
use Rattle.std.proofs.lemmas.List.{append-nil}
use Rattle.tier_core.specs.declared.sym.Sym.{Sym}
use Rattle.first_paths.proofs.Results.{on_ok}
use Rattle.first_paths.proofs.FirstStep.{IsFirstFrom, is_first, first_empty, first_step, step_exists}
use Rattle.comprehend.specs.{Searches.IsLeft, Steps.{Goes, IsEndCell}}
use Rattle.comprehend.proofs.{Reaching.{known_inside, same_left}, OneStep.one_step}
use Rattle.comprehend.proofs.follow.follow.Goals as goal

pub choose-choice-requires-clause-from : goal.choose-choice-requires-clause-from
choose-choice-requires-clause-from c = known_inside c.args.left.now c.loop-done.from
    (c.args.most - c.loop-done.done) c.loop-done.invariant.left_is

pub choose-choice-requires-clause-near : goal.choose-choice-requires-clause-near
choose-choice-requires-clause-near c = omega (arith, c.loop-done.invariant.left_is.near)

pub choose-choice-requires-clause-some : goal.choose-choice-requires-clause-some
choose-choice-requires-clause-some c =
    let states = c.args.states.now in
    let tests = c.args.tests.now in
    let n = c.args.most - 1 - c.loop-done.done in
    let P : ℕ → Type 0 = λ k. IsLeft c.args.left.now c.loop-done.from k in
    let more : c.args.most - c.loop-done.done ≡ n + 1 = omega (arith, c.loop-done-test.true) in
    step_exists (Goes states tests) (IsEndCell states tests) (IsLeft c.args.left.now) (same_left c.args.left.now)
    c.requires.lengths c.loop-done.from n
    (subst P more c.loop-done.invariant.left_is)

pub loop-done-preserved : goal.loop-done-preserved
loop-done-preserved c =
    let states = c.args.states.now in
    let tests = c.args.tests.now in
    let left = c.args.left.now in
    let v = c.loop-done.from in
    let inv = c.loop-done.invariant in
    let n = c.args.most - 1 - c.loop-done.done in
    let P : ℕ → Type 0 = λ k. IsLeft left v k in
    let more : c.args.most - c.loop-done.done ≡ n + 1 = omega (arith, c.loop-done-test.true) in
    let here : IsLeft left v (n + 1) = subst P more inv.left_is in
    let choice = c.choose-choice.result in
    let least = c.choose-choice.ensures in
    let same : n ≡ c.args.most - (c.loop-done.done + 1) = omega (arith, c.loop-done-test.true) in
    let Q : ℕ → Type 0 = λ k. IsLeft left choice.cell k in
    let longer : c.push.new.self ≡ c.loop-done.timeline ++ choice.column ∷ [] =
    on_ok c.push.result c.push.ensures.ok (sym c.is_err.ensures.value ∙ c.if-is_err.false) in
    record {
      left_is = subst Q same least.nearer;
      first = λ word first.
          (let F : List (List Sym) → Type 0 = IsFirstFrom (Goes states tests) (IsEndCell states tests) c.args.start in
          let one = one_step states tests c.requires.once c.requires.apart c.requires.tests_apart in
          let whole = inv.first (choice.column ∷ word)
          (first_step (Goes states tests) (IsEndCell states tests) (IsLeft left) (same_left left) c.requires.lengths
          one v n here choice.column choice.cell least word first) in
          subst F (sym (ap (λ xs. xs ++ word) longer
          ∙ append_assoc c.loop-done.timeline (choice.column ∷ []) word)) whole);
    }

pub returns : goal.returns
returns c =
    let states = c.args.states.now in
    let tests = c.args.tests.now in
    let columns = c.loop-done.timeline in
    let F : List (List Sym) → Type 0 = IsFirstFrom (Goes states tests) (IsEndCell states tests) c.args.start in
    let P : ℕ → Type 0 = λ k. IsLeft c.args.left.now c.loop-done.from k in
    let none : c.args.most - c.loop-done.done ≡ 0 = omega (arith, c.loop-done-test.false) in
    is_first (Goes states tests) (IsEndCell states tests) c.args.start columns
    (subst F (append-nil columns) (c.loop-done.invariant.first []
    (first_empty (Goes states tests) (IsEndCell states tests) (IsLeft c.args.left.now) (same_left c.args.left.now)
    c.requires.lengths c.loop-done.from
    (subst P none c.loop-done.invariant.left_is))))
