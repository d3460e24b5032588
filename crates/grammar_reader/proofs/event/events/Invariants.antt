use Rattle.std.proofs.Common.{◌≡◌, length, map, drop}
use Rattle.std.specs.List.{slice_split}
use Rattle.grammar_reader.specs.Statements.{each_some, event_of, events_of, is_the_word}
use Rattle.grammar_reader.specs.{Lexemes.{with_front, lexeme_seen}, Events.seen_event}
use Rattle.grammar_reader.proofs.event.events.Given as goal

-- the events so far, and those of the pieces that are left
abbrev pub invariant-loop-piece : goal.invariant-loop-piece
invariant-loop-piece l = with_front (map seen_event l.found.items)
    (each_some event_of (map (map lexeme_seen) (drop (length l.yielded)
    (slice_split (λ x. is_the_word l.connective (lexeme_seen x)) l.lexemes))))
    ≡ events_of l.connective (map lexeme_seen l.lexemes)
