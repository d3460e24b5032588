use Rattle.std.proofs.Common.{ap, ◌∙◌}
use Rattle.std.specs.String.{string_bytes}
use Rattle.outside.proofs.Writing.{stop, up_to_as, up_to_none, up_to_more, up_to_stop}
use Rattle.tier_core.specs.declared.tier.TierKind.TheVariants.{Input}
use Rattle.grammar_reader.specs.Canonical.{tier_words}
use Rattle.grammar_reader.proofs.{Adding.tiers_next, LineText.next_line}
use Rattle.grammar_reader.proofs.put.push_tiers.Goals as goal

pub loop-place-init : goal.loop-place-init
loop-place-init g c = up_to_none c.args.sink.now c.args.out.now _

pub loop-place-preserved : goal.loop-place-preserved
loop-place-preserved g c =
    let cuts = tiers_next c.args.tiers.now.names.items c.args.tiers.now.kinds.items c.deref-kind-items.result.now
    c.loop-place.place
    c.index.result.now Input c.deref-kind-items.ensures.value c.loop-place-test.true c.args.tiers.now.one_length in
    let name = c.as_bytes.ensures.value ∙ ap string_bytes c.index.ensures in
    let has = c.as_slice.ensures ∙ (rw name at c.tier_words-words.ensures) in
    let left = up_to_as (next_line tier_words cuts has) c.loop-place.invariant in
    up_to_more left c.in_ok-push_line.ensures

pub returns-in_err-push_line : goal.returns-in_err-push_line
returns-in_err-push_line g c =
    let cuts = tiers_next c.args.tiers.now.names.items c.args.tiers.now.kinds.items c.deref-kind-items.result.now
    c.loop-place.place
    c.index.result.now Input c.deref-kind-items.ensures.value c.loop-place-test.true c.args.tiers.now.one_length in
    let name = c.as_bytes.ensures.value ∙ ap string_bytes c.index.ensures in
    let has = c.as_slice.ensures ∙ (rw name at c.tier_words-words.ensures) in
    let left = up_to_as (next_line tier_words cuts has) c.loop-place.invariant in
    stop c.from_residual.ensures.1 (up_to_stop _ left c.in_err-push_line.ensures)
