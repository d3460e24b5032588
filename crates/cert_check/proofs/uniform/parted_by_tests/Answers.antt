use Rattle.std.proofs.{Common.{◌≡◌, length, ◌∙◌}, lemmas.List.take_all}
use Rattle.tier_core.specs.{Classes.sets_of}
use Rattle.cert_check.proofs.UniformSteps.{parted_none, parted_more}
use Rattle.cert_check.proofs.uniform.parted_by_tests.Goals as goal

pub loop-test-init : goal.loop-test-init
loop-test-init c = parted_none _ _ c.requires.pieces

pub part-requires : goal.part-requires
part-requires c =
    let wide : length (sets_of c.test-item.result) ≡ c.args.width =
    rw c.test-item.is (c.requires.tests c.loop-test.test-index c.test-item.result c.loop-test-test.true) in
    rw ((c.inside.ensures.width ∙ wide)) c.loop-test.invariant.pieces

pub loop-test-preserved : goal.loop-test-preserved
loop-test-preserved c =
    let wide : length (sets_of c.test-item.result) ≡ c.args.width =
    rw c.test-item.is (c.requires.tests c.loop-test.test-index c.test-item.result c.loop-test-test.true) in
    parted_more _ _ _ _ _ _ _ _ c.inside.result c.loop-test-test.true c.test-item.is (c.inside.ensures.width ∙ wide)
    c.inside.ensures.columns c.loop-test.invariant c.in_ok-parts.ensures

pub returns : goal.returns
returns c = rw (take_all _ _ c.loop-test-test.false) at c.loop-test.invariant
