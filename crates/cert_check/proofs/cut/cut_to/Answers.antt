use Rattle.std.proofs.Common.{ap, ap₂, ◌∙◌, bit_and}
use Rattle.tier_core.specs.{Kinds.phase_by_bits, Tiers.has_tier}
use Rattle.cert_check.proofs.Cuts.{low_bit, low_apart}
use Rattle.cert_check.proofs.cut.cut_to.Goals as goal

pub invariant_of-result : goal.invariant_of-result
invariant_of-result c = record {
  apart = ap₂ (λ m n. bit_and m n) c.low_bits.ensures c.low_bits-2.ensures ∙ low_apart _ _ _ c.args.kind.now.apart;
}

pub returns-clause-phases : goal.returns-clause-phases
returns-clause-phases c i l =
    ap₂ (λ a b. phase_by_bits a b) (ap (λ m. has_tier m i) c.low_bits.ensures ∙ low_bit _ _ i l)
    (ap (λ m. has_tier m i) c.low_bits-2.ensures ∙ low_bit _ _ i l)
