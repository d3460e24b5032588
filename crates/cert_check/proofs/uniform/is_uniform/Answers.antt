use Rattle.std.proofs.Common.{◌≡◌, []}
use Rattle.std.proofs.{lemmas.List.take_all, lemmas.List.Elements.All-from_recursion}
use Rattle.tier_core.specs.{declared.class.Class.Class, Classes.has}
use Rattle.cert_check.proofs.UniformSteps.{uniform_more}
use Rattle.cert_check.proofs.uniform.is_uniform.Goals as goal

pub loop-test-init : goal.loop-test-init
loop-test-init c x y hx hy = All-from_recursion (λ (test : Class). has test x ≡ has test y) [] tt

pub loop-test-preserved : goal.loop-test-preserved
loop-test-preserved c =
    uniform_more _ _ _ _ c.loop-test-test.true c.test-item.is (c.is_decided.ensures c.if-not-is_decided.false)
    c.loop-test.invariant

pub returns : goal.returns
returns c h = rw (take_all _ _ c.loop-test-test.false) at c.loop-test.invariant
