use Rattle.std.proofs.Common.{◌≡◌, ◌+◌, ◌*◌, ◌++◌, length, map, drop}
use Rattle.std.specs.String.{string_bytes}
use Rattle.grammar_reader.specs.{Canonical.{event_text, intersperse}, Words.texts_of}
use Rattle.grammar_reader.proofs.Joined.{joined_rest}
use Rattle.grammar_reader.proofs.lines.push_side.Given as goal

-- the words so far, and those of the events that are left
abbrev pub invariant-loop-event : goal.invariant-loop-event
invariant-loop-event l = record {
  words : texts_of l.words ++ joined_rest l.joint
      (map (event_text (map string_bytes l.names)) (drop l.event-index l.others))
      ≡ texts_of l.fn.words ++ intersperse l.joint (map (event_text (map string_bytes l.names)) l.events);
  count : l.words.len ≡ l.fn.words.len + 1 + 2 * l.event-index;
}
