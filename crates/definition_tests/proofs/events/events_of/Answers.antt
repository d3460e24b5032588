use Rattle.std.proofs.Common.{◌≡◌, ◌∙◌, ◌++◌, ◌+◌, ap, sym, map, true}
use Rattle.tier_core.specs.{Events.event, Timelines.symbol, Words.starts}
use Rattle.definition_tests.specs.Spans.{interval}
use Rattle.definition_tests.proofs.WordSteps.{left_from, left_without_end, left_with_pair, one_more}
use Rattle.definition_tests.proofs.events.events_of.Goals as goal

-- the constituent does not end
pub loop-place-preserved-in_default : goal.loop-place-preserved-in_default
loop-place-preserved-in_default c =
    let started : starts (symbol c.index-columns-place.result c.args.event.tier)
    ≡ true = ap starts (sym c.sym.ensures) ∙ sym c.starts.ensures ∙ c.if-not-starts.false in
    ap (λ cs. map interval c.loop-place.spans.items ++ map (event c.args.event.part) cs)
    (sym (left_without_end c.args.columns.now c.args.event.tier c.loop-place.place c.index-columns-place.result
    c.loop-place-test.true c.index-columns-place.is started (sym c.next_end.ensures.value ∙ c.in_default.is)))
    ∙ c.loop-place.invariant

-- one event more
pub loop-place-preserved : goal.loop-place-preserved
loop-place-preserved c =
    let part = c.args.event.part in
    let left = left_from c.args.columns.now c.args.event.tier (c.loop-place.place + 1) in
    let started : starts (symbol c.index-columns-place.result c.args.event.tier)
    ≡ true = ap starts (sym c.sym.ensures) ∙ sym c.starts.ensures ∙ c.if-not-starts.false in
    ap (λ xs. map interval xs ++ map (event part) left) c.in_ok-add.ensures
    ∙ one_more part c.loop-place.spans.items c.of_part-span.result
    (c.loop-place.place, c.in-Some.end) left c.of_part-span.ensures
    ∙ ap (λ cs. map interval c.loop-place.spans.items ++ map (event part) cs)
    (sym (left_with_pair c.args.columns.now c.args.event.tier c.loop-place.place c.index-columns-place.result
    c.loop-place-test.true c.index-columns-place.is c.in-Some.end started
    (sym c.next_end.ensures.value ∙ c.in-Some.is)))
    ∙ c.loop-place.invariant
