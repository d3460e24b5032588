use Rattle.std.proofs.{Common.{◌+◌, ◌*◌, length, drop, map, ap, sym, ◌∙◌, arith, true, false}, Math.Pow.pow_mono}
use Rattle.std.proofs.{lemmas.List.length_push, lemmas.Iterator.Consumers.{YieldsList-turn, YieldsList-from_rest}}
use Rattle.tier_core.proofs.MaskBits.{bit_below}
use Rattle.grammar_reader.specs.{Values.inputs_of, Seen.tiers_seen, Reading.named_mask}
use Rattle.grammar_reader.proofs.Masks.{mask_skip, mask_next, power_more, power_later}
use Rattle.grammar_reader.proofs.add.named_mask.Goals as goal

pub overflow_mul-bit : goal.overflow_mul-bit
overflow_mul-bit c =
    let t = YieldsList-turn (YieldsList-from_rest c.args.tiers.now.entries
    (cc)) c.loop-name.yielded _ c.loop-name.yielded_by _ _ _ c.in-Some.is c.next.ensures.steps in
    let p = pow_mono {i = length c.loop-name.yielded} {j = 12} (omega (arith, t.0, c.requires)) in
    omega (arith, p, c.loop-name.invariant.small)

pub loop-name-preserved : goal.loop-name-preserved
loop-name-preserved c =
    let t = YieldsList-turn (YieldsList-from_rest c.args.tiers.now.entries
    (cc)) c.loop-name.yielded _ c.loop-name.yielded_by _ _ _ c.in-Some.is c.next.ensures.steps in
    let n = length_push c.loop-name.yielded (c.in-Some.name, c.in-Some.kind) in
    let names = map (λ n. n.now) c.args.names.now in
    record {
      small = power_more _ c.loop-name.bit (length c.loop-name.yielded) n c.loop-name.invariant.small;
      below = bit_below c.loop-name.mask c.loop-name.bit c.is_among.result c.bit_if_named-mask.result
          c.bit_if_named-mask.ensures c.loop-name.invariant.below;
      rest = ap (λ k. c.loop-name.mask + c.bit_if_named-mask.result + c.loop-name.bit * 2 * named_mask
          (inputs_of (tiers_seen (drop k c.args.tiers.now.entries))) names) n
          ∙ ap (λ r. c.loop-name.mask + r + c.loop-name.bit * 2 * named_mask
          (inputs_of (tiers_seen (drop
          (length c.loop-name.yielded + 1) c.args.tiers.now.entries))) names) c.bit_if_named-mask.ensures
          ∙ sym (mask_next c.args.tiers.now.entries names (length c.loop-name.yielded)
          (c.in-Some.name.now, c.in-Some.kind.now) t.0 t.1 c.loop-name.mask c.loop-name.bit c.is_among.result
          (sym c.is_input.ensures ∙ c.if-not-is_input.false) c.is_among.ensures)
          ∙ c.loop-name.invariant.rest;
    }

pub loop-name-preserved-then-not-is_input : goal.loop-name-preserved-then-not-is_input
loop-name-preserved-then-not-is_input c =
    let t = YieldsList-turn (YieldsList-from_rest c.args.tiers.now.entries
    (cc)) c.loop-name.yielded _ c.loop-name.yielded_by _ _ _ c.in-Some.is c.next.ensures.steps in
    let n = length_push c.loop-name.yielded (c.in-Some.name, c.in-Some.kind) in
    let names = map (λ n. n.now) c.args.names.now in
    record {
      small = power_later _ c.loop-name.bit (length c.loop-name.yielded) n c.loop-name.invariant.small;
      below = c.loop-name.invariant.below;
      rest = ap (λ k. c.loop-name.mask + c.loop-name.bit * named_mask
          (inputs_of (tiers_seen (drop k c.args.tiers.now.entries))) names) n
          ∙ sym (mask_skip c.args.tiers.now.entries names (length c.loop-name.yielded)
          (c.in-Some.name.now, c.in-Some.kind.now) t.0 t.1 c.loop-name.mask c.loop-name.bit
          (sym c.is_input.ensures ∙ c.if-not-is_input.true))
          ∙ c.loop-name.invariant.rest;
    }
