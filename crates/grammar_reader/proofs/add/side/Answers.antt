use Rattle.std.proofs.Common.{◌≡◌, ◌+◌, ◌<◌, ◌∷◌, [], ◌++◌, length, take, get_or, map, ap, sym, ◌∙◌, arith}
use Rattle.std.proofs.{Common.length-set, lemmas.List.{take_more_set, take_more, map-append, take_all}}
use Rattle.std.proofs.{lemmas.List.Elements.{All-take, All-set}, lemmas.Simd.map-map}
use Rattle.grammar_reader.specs.{Events.seen_event, Seen.tiers_seen, Reading.indexed_event}
use Rattle.grammar_reader.proofs.Adding.{event_more}
use Rattle.grammar_reader.proofs.add.side.Goals as goal

pub from_events-requires-clause-tiers : goal.from_events-requires-clause-tiers
from_events-requires-clause-tiers c = All-take (λ event. event.tier < 12)
    (length c.args.events.now) c.loop-place.found c.loop-place.invariant.small

pub loop-place-preserved : goal.loop-place-preserved
loop-place-preserved c =
    let l : c.loop-place.place < length c.loop-place.found = omega arith in
    record {
      size = omega (arith, length-set c.loop-place.found c.loop-place.place c.indexed_event.result);
      small = All-set
          (λ event. event.tier < 12) c.loop-place.found c.loop-place.place c.indexed_event.result
          c.indexed_event.ensures.few
          c.loop-place.invariant.small;
      front = event_more (λ e. indexed_event (tiers_seen c.args.tiers.now.entries)
          (seen_event e)) c.args.events.now c.loop-place.found c.loop-place.place _ c.indexed_event.result
          c.loop-place-test.true l c.loop-place.invariant.front c.indexed_event.ensures.event;
    }

pub returns : goal.returns
returns c =
    let n : length c.args.events.now ≡ c.loop-place.place = omega arith in
    c.from_events.ensures ∙ ap (λ k. take k c.loop-place.found) n ∙ c.loop-place.invariant.front
    ∙ ap (map (λ e. indexed_event (tiers_seen c.args.tiers.now.entries) (seen_event e)))
    (take_all c.loop-place.place c.args.events.now c.loop-place-test.false)
    ∙ sym (map-map (indexed_event (tiers_seen c.args.tiers.now.entries)) seen_event c.args.events.now)
