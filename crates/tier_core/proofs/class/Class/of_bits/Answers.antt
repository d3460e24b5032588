use Rattle.std.proofs.Common.{length, ap, sym, ◌∙◌, arith}
use Rattle.tier_core.specs.ClassWords.{below_in}
use Rattle.tier_core.proofs.{ClassSets.sets_are, ClassWordLemmas.{width_from, starts_with}}
use Rattle.tier_core.proofs.class.Class.of_bits.Goals as goal

pub loop-tier-init : goal.loop-tier-init
loop-tier-init c = record {
  done = λ t l. absurd (omega arith);
  rest = starts_with (length c.args.bits.now) c.requires.few;
}

pub invariant_of-result : goal.invariant_of-result
invariant_of-result c =
    let wide = width_from c.loop-tier.word (length c.args.bits.now) c.requires.few c.loop-tier.invariant.rest in
    record {
      some = omega (arith, wide, c.requires.some);
      few = omega (arith, wide, c.requires.few);
      rest = ap (below_in c.loop-tier.word) wide ∙ c.loop-tier.invariant.rest ∙ sym wide;
    }

pub returns : goal.returns
returns c =
    sets_are _ c.args.bits.now (width_from c.loop-tier.word
    (length c.args.bits.now) c.requires.few c.loop-tier.invariant.rest)
    (λ t l. c.loop-tier.invariant.done t (omega (arith, c.loop-tier-test.false)))
