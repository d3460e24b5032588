use Rattle.std.proofs.Common.{sym, ◌∙◌}
use Rattle.cert_check.proofs.FlagSteps.{flagged_more, flagged_same, flagged_told, flagged_within}
use Rattle.cert_check.proofs.moves.opened_after.Goals.{then-is_free, else-is_free}
use Rattle.cert_check.proofs.moves.opened_after.Goals as goal

pub loop-tier-preserved : goal.loop-tier-preserved
loop-tier-preserved c = elim c.if-is_free.branch [
  | then-is_free w ↦ rw (w.opened-is, w.free-is) (flagged_more _ _ _ _ _ _ _ c.loop-tier.invariant c.loop-tier-test.true
      (sym c.is_free.ensures ∙ w.if-is_free.true) w.with_bit-opened.ensures.within
      (w.with_bit-opened.ensures.here ∙ w.is_open_after.ensures) w.with_bit-opened.ensures.others)
  | else-is_free w ↦ rw (w.opened-is, w.free-is) (flagged_same _ _ _ _ _ _ c.loop-tier.invariant c.loop-tier-test.true
      (sym c.is_free.ensures ∙ w.if-is_free.false))
]

pub returns-clause-flags : goal.returns-clause-flags
returns-clause-flags c = flagged_told _ _ _ _ _ c.loop-tier.invariant c.loop-tier-test.false

pub returns-clause-within : goal.returns-clause-within
returns-clause-within c = flagged_within _ _ _ _ _ c.loop-tier.invariant c.loop-tier-test.false
