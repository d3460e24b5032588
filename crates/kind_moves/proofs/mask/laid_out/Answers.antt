use Rattle.std.proofs.Common.{sym, ◌∙◌, arith}
use Rattle.kind_moves.proofs.MaskSteps.{laid_more, laid_same, laid_all}
use Rattle.kind_moves.proofs.mask.laid_out.Goals.{then-has_bit, else-has_bit}
use Rattle.kind_moves.proofs.mask.laid_out.Goals as goal

pub loop-tier-preserved : goal.loop-tier-preserved
loop-tier-preserved c = elim c.if-has_bit.branch [
  | then-has_bit w ↦ rw (w.laid-is, w.next-is) (laid_more _ _ _ _ _ _ c.loop-tier.invariant (sym c.has_bit.ensures
      ∙ w.if-has_bit.true)
      w.with_bit-laid.ensures.within (w.with_bit-laid.ensures.here
      ∙ w.has_bit-then-has_bit.ensures) w.with_bit-laid.ensures.others)
  | else-has_bit w ↦ rw (w.laid-is, w.next-is) (laid_same _ _ _ _ _ c.loop-tier.invariant (sym c.has_bit.ensures
      ∙ w.if-has_bit.false))
]

pub returns : goal.returns
returns c = laid_all _ _ _ _ _ c.loop-tier.invariant (omega arith)
