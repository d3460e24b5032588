use Rattle.std.proofs.Common.{arith}
use Rattle.cert_check.proofs.GoAlike.{adds_no_tests, adds_weaker, open_more}
use Rattle.cert_check.proofs.column_tests.push_open_tests.Goals as goal

pub loop-tier-init : goal.loop-tier-init
loop-tier-init c = adds_no_tests _ _ _ (λ c d t l. absurd (omega arith))

pub loop-tier-preserved : goal.loop-tier-preserved
loop-tier-preserved c =
    open_more _ _ _ _ _ _ c.loop-tier.invariant c.in_ok-push.ensures.items c.open_after.ensures.width
    c.open_after.ensures.columns

pub returns : goal.returns
returns c = adds_weaker _ _ _ _ _ (λ x y h t l. h t (omega (arith, l, c.loop-tier-test.false))) c.loop-tier.invariant
