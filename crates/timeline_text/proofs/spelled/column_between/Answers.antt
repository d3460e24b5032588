use Rattle.std.proofs.Common.{◌≡◌, ◌<◌, ◌∷◌, [], ◌++◌, length, ap, sym, ◌∙◌, arith, length-set}
use Rattle.std.proofs.{lemmas.List.take_more_set, lemmas.List.FromFn.map-range_with_len_more}
use Rattle.tier_core.specs.Tiers.{has_tier}
use Rattle.timeline_text.specs.Between.{boundary_symbol, column_between}
use Rattle.timeline_text.proofs.spelled.column_between.Goals as goal

pub loop-tier-preserved : goal.loop-tier-preserved
loop-tier-preserved c =
    let l : c.loop-tier.tier < length c.loop-tier.syms = omega arith in
    let e : c.boundary_symbol.result ≡ boundary_symbol (has_tier c.args.before c.loop-tier.tier)
    (has_tier c.args.after c.loop-tier.tier) = cc in
    record {
      size = omega (arith, length-set c.loop-tier.syms c.loop-tier.tier c.boundary_symbol.result);
      front = take_more_set c.loop-tier.syms c.loop-tier.tier c.boundary_symbol.result l
          ∙ ap (λ xs. xs ++ c.boundary_symbol.result ∷ []) c.loop-tier.invariant.front
          ∙ ap (λ x. column_between c.loop-tier.tier c.args.before c.args.after ++ x ∷ []) e
          ∙ sym (map-range_with_len_more
          (λ tier. boundary_symbol (has_tier c.args.before tier)
          (has_tier c.args.after tier)) 0 c.loop-tier.tier c.loop-tier.tier (omega arith));
    }
