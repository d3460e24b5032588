use Rattle.std.proofs.Common.{◌-◌, List, length, ap, arith}
use Rattle.std.proofs.{lemmas.List.Elements.All-from_recursion}
use Rattle.std.proofs.lemmas.Result.{IfOk-weaker}
use Rattle.tier_core.specs.declared.tier.TierKind.{TierKind}
use Rattle.violation.specs.Conditions.{IsOverTiers}
use Rattle.grammar_reader.proofs.OverTiers.{over_tiers}
use Rattle.cert_check.specs.{Subjects.problem_of}
use Rattle.cert_check.proofs.PartedSteps.{tests_first, tests_next}
use Rattle.cert_check.proofs.ground.stage_tests.Goals as goal

pub constraint_tests-requires-clause-over : goal.constraint_tests-requires-clause-over
constraint_tests-requires-clause-over c =
    let g = c.args.subject.now.grammar.now in
    let same =
    ap (λ (ks : List TierKind). length ks) c.as_slice.ensures.value in
    rw same (rw c.index.ensures (All-from_recursion (IsOverTiers (length g.tiers.kinds.items)) g.constraints.items
    (over_tiers g) (c.args.stage - 1) c.index.result.now (omega (arith, c.requires.stage, c.if-stage-eq0.false))))

pub returns-then-stage-eq0 : goal.returns-then-stage-eq0
returns-then-stage-eq0 c =
    let same =
    ap (λ (ks : List TierKind). length ks) c.as_slice.ensures.value in
    IfOk-weaker c.open_tests.result _ _
    (λ tests t. tests_first (problem_of c.args.subject.now) _ _ _ c.if-stage-eq0.true same t) c.open_tests.ensures

pub returns : goal.returns
returns c =
    let same =
    ap (λ (ks : List TierKind). length ks) c.as_slice.ensures.value in
    IfOk-weaker c.constraint_tests.result _ _
    (λ tests t. tests_next (problem_of c.args.subject.now) _ _ _ _ (omega (arith, c.if-stage-eq0.false))
    c.requires.stage c.index.ensures same t)
    c.constraint_tests.ensures
