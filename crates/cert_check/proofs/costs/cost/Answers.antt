use Rattle.std.proofs.Common.{arith}
use Rattle.cert_check.proofs.MovedSteps.{over_at, cost_told}
use Rattle.cert_check.proofs.costs.cost.Goals as goal

pub costs-requires-clause-over : goal.costs-requires-clause-over
costs-requires-clause-over c =
    let s = c.args.subject.now in
    rw c.requires.width (over_at s c.requires.ready _ c.requires.stage _ _
    (omega (arith, c.requires.stage, c.if-stage-eq0.false)) c.index-2.ensures)

pub returns-then-costs-clause-cost : goal.returns-then-costs-clause-cost
returns-then-costs-clause-cost c =
    let s = c.args.subject.now in
    cost_told s c.requires.ready _ c.requires.stage _ _ _ _ _ _ _ (omega (arith, c.if-stage-eq0.false)) c.requires.fits
    c.requires.place c.requires.opened c.index-2.ensures c.index.ensures c.has_bit-is_unmet.ensures
    (λ phase e. c.if-costs.ensures phase e)

pub returns-else-costs-clause-cost : goal.returns-else-costs-clause-cost
returns-else-costs-clause-cost c =
    let s = c.args.subject.now in
    cost_told s c.requires.ready _ c.requires.stage _ _ _ _ _ _ _ (omega (arith, c.if-stage-eq0.false)) c.requires.fits
    c.requires.place c.requires.opened c.index-2.ensures c.index.ensures c.has_bit-is_unmet.ensures
    (λ phase e. c.if-costs.ensures phase e)
