use Rattle.std.proofs.Common.{sym, ◌∙◌, arith}
use Rattle.kind_moves.proofs.MaskSteps.{taken_more, taken_same, taken_all, taken_within}
use Rattle.kind_moves.proofs.mask.taken_from.Goals.{then-has_bit, else-has_bit}
use Rattle.kind_moves.proofs.mask.taken_from.Goals as goal

pub loop-tier-preserved : goal.loop-tier-preserved
loop-tier-preserved c = elim c.if-has_bit.branch [
  | then-has_bit w ↦ rw (w.taken-is, w.next-is) (taken_more _ _ _ _ _ _ c.loop-tier.invariant (sym c.has_bit.ensures
      ∙ w.if-has_bit.true)
      w.with_bit-taken.ensures.within (w.with_bit-taken.ensures.here
      ∙ w.has_bit-then-has_bit.ensures) w.with_bit-taken.ensures.others)
  | else-has_bit w ↦ rw (w.taken-is, w.next-is) (taken_same _ _ _ _ _ c.loop-tier.invariant (sym c.has_bit.ensures
      ∙ w.if-has_bit.false))
]

pub returns-clause-flags : goal.returns-clause-flags
returns-clause-flags c = taken_all _ _ _ _ _ c.loop-tier.invariant (omega arith)

pub returns-clause-within : goal.returns-clause-within
returns-clause-within c = taken_within _ _ _ _ _ c.loop-tier.invariant (omega arith)
