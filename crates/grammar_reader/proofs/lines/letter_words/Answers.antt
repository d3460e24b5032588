use Rattle.std.proofs.Common.{◌≡◌, ◌++◌, arith, ap, sym, ◌∙◌}
use Rattle.grammar_reader.specs.Words.{texts_of}
use Rattle.tier_core.specs.declared.tier.TierKind.TheVariants.{Input}
use Rattle.grammar_reader.proofs.Adding.{names_skip}
use Rattle.grammar_reader.proofs.lines.letter_words.Goals as goal

pub loop-place-preserved-then-not-is_input : goal.loop-place-preserved-then-not-is_input
loop-place-preserved-then-not-is_input c = record {
  words = ap (λ ws. texts_of c.loop-place.words ++ ws)
      (sym (names_skip c.args.tiers.now.names.items c.args.tiers.now.kinds.items c.deref-kind-items.result.now
      c.loop-place.place c.loop-place.mask Input
      c.deref-kind-items.ensures.value c.loop-place-test.true c.args.tiers.now.one_length
      (sym c.is_input.ensures ∙ c.if-not-is_input.true))) ∙ c.loop-place.invariant.words;
  count = omega (arith, c.loop-place.invariant.count);
}
