use Rattle.std.proofs.Common.{◌≡◌, ◌<◌, length, map, ap, sym, ◌∙◌, arith}
use Rattle.tier_core.specs.{ClassWords.below_in, Sets.single_set, Classes.sets_have, Timelines.symbol}
use Rattle.tier_core.proofs.{ClassSets.{single_next, sets_single}, ClassWordLemmas.{width_from, starts_with}}
use Rattle.tier_core.proofs.SetLemmas.{alone_have, only_have}
use Rattle.tier_core.proofs.class.Class.single.Goals as goal

pub loop-tier-init : goal.loop-tier-init
loop-tier-init c =
    let wide : c.from-word.result ≡ length c.args.column.now = c.from-word.ensures ∙ c.width.ensures.value in
    record {
      done = λ t l. absurd (omega arith);
      rest = ap (λ w. below_in w (length c.args.column.now)) wide
          ∙ starts_with (length c.args.column.now) (omega arith);
    }

pub loop-tier-preserved : goal.loop-tier-preserved
loop-tier-preserved c =
    let column = c.args.column.now in
    let inside : c.loop-tier.tier < length column = omega
    (arith, ap length c.syms-sym-items.ensures.value, c.loop-tier-test.true) in
    record {
      done =
          single_next c.loop-tier.word c.with_set_in-word.result c.loop-tier.tier c.single_set.result column inside
          (omega arith)
          (c.single_set.ensures.value ∙ ap (λ col. single_set
          (symbol col c.loop-tier.tier)) c.syms-sym-items.ensures.value) c.with_set_in-word.ensures.here
          c.with_set_in-word.ensures.others c.loop-tier.invariant.done;
      rest = c.with_set_in-word.ensures.below (length column) inside (omega arith) ∙ c.loop-tier.invariant.rest;
    }

pub invariant_of-result : goal.invariant_of-result
invariant_of-result c =
    let wide = width_from c.loop-tier.word (length c.args.column.now) (omega arith) c.loop-tier.invariant.rest in
    record {
      some = omega (arith, wide, c.width.ensures.value, c.width.ensures.some);
      few = omega (arith, wide);
      rest = ap (below_in c.loop-tier.word) wide ∙ c.loop-tier.invariant.rest ∙ sym wide;
    }

pub returns-clause-sets : goal.returns-clause-sets
returns-clause-sets c =
    sets_single _ c.args.column.now c.loop-tier.invariant.rest (omega arith)
    (λ t l. c.loop-tier.invariant.done t
    (omega (arith, ap length c.syms-sym-items.ensures.value, c.loop-tier-test.false)))

pub returns-clause-alone : goal.returns-clause-alone
returns-clause-alone c other =
    let column = c.args.column.now in
    let sets = sets_single _ column c.loop-tier.invariant.rest (omega arith)
    (λ t l. c.loop-tier.invariant.done t
    (omega (arith, ap length c.syms-sym-items.ensures.value, c.loop-tier-test.false))) in (
      λ h. only_have column other (ap (λ s. sets_have s other) (sym sets) ∙ h),
      λ e. ap (λ s. sets_have s other) sets ∙ ap (sets_have (map single_set column)) e ∙ alone_have column,
    )
