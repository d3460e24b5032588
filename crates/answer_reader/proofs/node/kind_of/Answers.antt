use Rattle.std.proofs.Common.{ap, ◌∙◌, arith, length, map, bit_and}
use Rattle.std.specs.List.{range_with_len}
use Rattle.tier_core.specs.{Kinds.{open_tiers, phase_by_bits}, Tiers.has_tier}
use Rattle.answer_reader.specs.Masks.{mark_mask}
use Rattle.answer_reader.proofs.Bits.{mask_told, masks_apart, phases_told}
use Rattle.answer_reader.proofs.node.kind_of.Goals as goal

pub invariant_of-result : goal.invariant_of-result
invariant_of-result c = record {
  apart = ap (λ n. bit_and n c.mask_of-3.result) c.mask_of-2.ensures.mask
      ∙ ap (bit_and (mark_mask 117 c.args.phase_text.now)) c.mask_of-3.ensures.mask
      ∙ masks_apart 117 109 c.args.phase_text.now (λ e. absurd (omega arith));
}

pub returns-clause-opened : goal.returns-clause-opened
returns-clause-opened c = ap (open_tiers (length c.args.open_text.now)) c.mask_of.ensures.mask ∙ mask_told 43 _

pub returns-clause-phases : goal.returns-clause-phases
returns-clause-phases c = ap (λ u. map (λ i. phase_by_bits (has_tier u i) (has_tier c.mask_of-3.result i))
    (range_with_len 0 (length c.args.phase_text.now))) c.mask_of-2.ensures.mask ∙ ap
    (λ m. map (λ i. phase_by_bits (has_tier (mark_mask 117 c.args.phase_text.now) i) (has_tier m i))
    (range_with_len 0 (length c.args.phase_text.now))) c.mask_of-3.ensures.mask ∙ phases_told _
