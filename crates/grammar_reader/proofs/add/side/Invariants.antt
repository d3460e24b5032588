use Rattle.std.proofs.Common.{◌≡◌, ◌<◌, length, map, take}
use Rattle.std.specs.Prelude.{All}
use Rattle.grammar_reader.specs.{Events.seen_event, Seen.tiers_seen, Reading.indexed_event}
use Rattle.grammar_reader.proofs.add.side.Given as goal

abbrev pub invariant-loop-place : goal.invariant-loop-place
invariant-loop-place l = record {
  size : length l.found ≡ 8;
  small : All (λ event. event.tier < 12) l.found;
  front : take l.place l.found ≡ map (λ e. indexed_event (tiers_seen l.tiers.entries) (seen_event e))
      (take l.place l.events);
}
