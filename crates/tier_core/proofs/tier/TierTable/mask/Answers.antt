use Rattle.std.proofs.{Common.{◌≡◌, length, ap, sym, ◌∙◌, arith}, lemmas.Bool.false≢true}
use Rattle.tier_core.specs.Tiers.{kind_at}
use Rattle.tier_core.proofs.MaskLemmas.{mask_with, mask_without}
use Rattle.tier_core.proofs.tier.TierTable.mask.Goals.{then-is_same, else-is_same}
use Rattle.tier_core.proofs.tier.TierTable.mask.Goals as goal

pub loop-tier-preserved : goal.loop-tier-preserved
loop-tier-preserved c =
    let kinds = c.args.self.now.kinds.items in
    let k = c.loop-tier.tier in
    let here : kind_at kinds k ≡ kind_at c.deref-each-items.result.now k = ap (λ xs. kind_at xs k)
    (sym c.deref-each-items.ensures.value) in
    elim c.if-is_same.branch [
      | then-is_same w ↦ rw w.mask-is (mask_with kinds c.args.kind c.loop-tier.mask k
          (omega (arith, c.args.self.now.few, ap length c.deref-each-items.ensures.value))
          (here ∙ c.is_same.ensures.0 w.if-is_same.true) c.loop-tier.invariant)
      | else-is_same w ↦ rw w.mask-is (mask_without kinds c.args.kind c.loop-tier.mask k
          (λ e. false≢true (sym w.if-is_same.false ∙ c.is_same.ensures.1 (sym here ∙ e))) c.loop-tier.invariant)
    ]
