use Rattle.std.proofs.{Common.{◌≡◌, ◌++◌, ◌∷◌, [], map, length, sym, ap, ◌∙◌, arith}, lemmas.List.length_push}
use Rattle.tier_core.specs.Timelines.{symbol}
use Rattle.tier_core.proofs.MaskLemmas.{tier_within, kept_more, kept_same, tiers_at_end}
use Rattle.tier_core.proofs.projection.kept_syms.Goals.{then-has_bit, else-has_bit}
use Rattle.tier_core.proofs.projection.kept_syms.Goals as goal

pub bounds-column-tier : goal.bounds-column-tier
bounds-column-tier c =
    tier_within c.args.keep (length c.args.column.now) c.loop-tier.tier c.requires.within
    (sym c.has_bit.ensures ∙ c.if-has_bit.true)

pub loop-tier-preserved : goal.loop-tier-preserved
loop-tier-preserved c =
    elim c.if-has_bit.branch [
      | then-has_bit w ↦ let e = kept_more c.args.column.now c.args.keep c.loop-tier.tier
          (sym c.has_bit.ensures ∙ w.if-has_bit.true) in
          let items : c.if-has_bit.syms.items ≡ c.loop-tier.syms.items
          ++ symbol c.args.column.now c.loop-tier.tier ∷ [] = ap (λ s. s.items) w.syms-is
          ∙ w.push_reserved.ensures.items in
          record {
            kept = items ∙ ap (λ xs. xs ++ symbol c.args.column.now c.loop-tier.tier ∷ []) c.loop-tier.invariant.kept
                ∙ sym e;
            room = ap (λ s. s.capacity) w.syms-is ∙ w.push_reserved.ensures.capacity ∙ c.loop-tier.invariant.room;
            few = omega (
              arith,
              ap length items,
              length_push c.loop-tier.syms.items (symbol c.args.column.now c.loop-tier.tier),
            );
          }
      | else-has_bit w ↦ let e = kept_same c.args.column.now c.args.keep c.loop-tier.tier
          (sym c.has_bit.ensures ∙ w.if-has_bit.false) in
          record {
            kept = ap (λ s. s.items) w.syms-is ∙ c.loop-tier.invariant.kept ∙ sym e;
            room = ap (λ s. s.capacity) w.syms-is ∙ c.loop-tier.invariant.room;
            few = omega (arith, ap (λ s. length s.items) w.syms-is);
          }
    ]

pub returns-clause-syms : goal.returns-clause-syms
returns-clause-syms c =
    c.loop-tier.invariant.kept ∙ ap (map (symbol c.args.column.now))
    (tiers_at_end c.args.keep c.loop-tier.tier (omega arith))
