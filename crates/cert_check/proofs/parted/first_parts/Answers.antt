use Rattle.std.proofs.{Common.{List, length, ap}, lemmas.Result.IfOk-weaker}
use Rattle.tier_core.specs.{declared.tier.TierKind.TierKind}
use Rattle.violation.proofs.SplitLemmas.{tiers_split}
use Rattle.cert_check.proofs.PartedSteps.{parted_first}
use Rattle.cert_check.proofs.parted.first_parts.Goals as goal

pub parted_by_tests-requires-clause-pieces : goal.parted_by_tests-requires-clause-pieces
parted_by_tests-requires-clause-pieces c =
    let same =
    ap (λ (ks : List TierKind). length ks) c.as_slice.ensures.value in
    rw same (c.in_ok-pieces.ensures 0).pieces

pub parted_by_tests-requires-clause-tests : goal.parted_by_tests-requires-clause-tests
parted_by_tests-requires-clause-tests c =
    let same =
    ap (λ (ks : List TierKind). length ks) c.as_slice.ensures.value in
    rw same (rw c.requires.tests.new_is c.requires.tests.one_width)

pub returns : goal.returns
returns c =
    let s = c.args.subject.now in
    let same =
    ap (λ (ks : List TierKind). length ks) c.as_slice.ensures.value in
    IfOk-weaker c.parted_by_tests.result _ _ (λ parts p. parted_first _ _ _ _ _ _
    (tiers_split s.grammar.now.tiers.kinds.items).free_below same (c.in_ok-pieces.ensures 0) c.requires.tests p)
    c.parted_by_tests.ensures
