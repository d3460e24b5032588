use Rattle.std.proofs.Common.{refl, sym, ◌∙◌, arith, pow_mono}
use Rattle.tier_core.proofs.MaskBits.{bit_below}
use Rattle.answer_reader.proofs.Bits.{mask_next, bit_more}
use Rattle.answer_reader.proofs.mask.mask_of.Goals as goal

pub overflow_mul-bit : goal.overflow_mul-bit
overflow_mul-bit c =
    let p = pow_mono {i = c.loop-byte.byte-index} {j = 24} (omega arith) in
    omega (arith, p, c.loop-byte.invariant.small)

pub loop-byte-preserved : goal.loop-byte-preserved
loop-byte-preserved c = record {
  small = bit_more _ _ c.loop-byte.invariant.small;
  below = bit_below _ _ _ _ c.bit_of-mask.ensures c.loop-byte.invariant.below;
  rest = sym (mask_next _ _ _ _ _
      c.args.bytes.now _ (omega arith) refl c.bit_of-mask.ensures) ∙ c.loop-byte.invariant.rest;
}
