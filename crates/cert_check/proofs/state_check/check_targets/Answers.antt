use Rattle.std.proofs.Common.{◌≡◌, ℕ, ◌<◌, List, length, get_or, Some, slice_get, sym, ap, ◌∙◌, arith}
use Rattle.std.proofs.{Common.{⊎_elim, true≢false}, lemmas.Bool.cases_lt}
use Rattle.std.proofs.lemmas.Option.{slice_get-get_or, slice_get_within}
use Rattle.answer_text.specs.{declared.automaton.ArcLine.ArcLine}
use Rattle.cert_check.specs.{Subjects.problem_of}
use Rattle.cert_check.proofs.{Faultless.some_same, StateFaults.{targets_right, first_target}}
use Rattle.cert_check.proofs.StateSubjects.{states_ascend}
use Rattle.cert_check.proofs.state_check.check_targets.Goals as goal

numbered : (xs ys : List ArcLine) → xs ≡ ys → (n : ℕ) (arc : ArcLine) → n < length xs → arc ≡ get_or xs n arc
    → slice_get ys n ≡ Some arc
numbered xs ys e n arc l is = ap (λ (zs : List ArcLine). slice_get zs n) (sym e) ∙ slice_get-get_or xs n _ l ∙ ap
    (λ (x : ArcLine). Some x) (sym is)

pub returns-then-not-has_state-clause-err : goal.returns-then-not-has_state-clause-err
returns-then-not-has_state-clause-err c =
    let s = c.args.subject.now in
    first_target _ _ (states_ascend s c.requires.staged) _ c.requires.at.listed _ _
    (numbered _ _ c.deref-arc-items.ensures.value _ _ c.loop-arc-test.true c.arc-item.is)
    (λ h. true≢false (sym (c.has_state.ensures.1 (rw c.as_slice-states.ensures.value h)) ∙ c.if-not-has_state.true))
    (λ m l x e. c.loop-arc.invariant m x l e)

pub loop-arc-preserved : goal.loop-arc-preserved
loop-arc-preserved c n arc l e = ⊎_elim
    (λ below. c.loop-arc.invariant n arc below e)
    (λ above.
    let is : n ≡ c.loop-arc.arc-index = omega (arith, l, above) in
    let same = some_same (sym e ∙ ap (slice_get c.args.state.now.arcs.items) is ∙ numbered _ _
    c.deref-arc-items.ensures.value _ _ c.loop-arc-test.true c.arc-item.is) in
    rw same (rw c.as_slice-states.ensures.value at (c.has_state.ensures.0 c.if-not-has_state.false))) (cases_lt n
    c.loop-arc.arc-index)

pub returns-clause-ok : goal.returns-clause-ok
returns-clause-ok c =
    let s = c.args.subject.now in
    targets_right (problem_of s) _ (states_ascend s c.requires.staged) _ c.requires.at.listed
    (λ n arc e. c.loop-arc.invariant n arc (omega (
      arith,
      slice_get_within _ n _ e,
      c.loop-arc-test.false,
      ap (λ (xs : List ArcLine). length xs) c.deref-arc-items.ensures.value,
    )) e)
