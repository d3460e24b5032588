use Rattle.std.proofs.Common.{rules, tests, ◌≡◌, ◌≤◌, ◌+◌, length, map, drop, ◌∷◌, [], ◌++◌, ap, sym, ◌∙◌, arith}
use Rattle.std.proofs.Common.{refl, append-nil, option_map, Some}
use Rattle.std.proofs.lemmas.List.{length_push, at_drop_all, length-map, map-append}
use Rattle.std.specs.{List.slice_split, Slice.Iter.split_callee}
use Rattle.timeline_text.proofs.Splits.{split_turn, split_end}
use Rattle.grammar_reader.specs.{Statements.{each_some, event_of, is_the_word}, Lexemes.{with_front, lexeme_seen}}
use Rattle.grammar_reader.specs.Events.{seen_event}
use Rattle.grammar_reader.proofs.{FromLine.from_line, Lexing.front_nil}
use Rattle.grammar_reader.proofs.EachSome.{some_more, some_none, slice_split-map}
use Rattle.grammar_reader.proofs.event.events.Goals as goal

pub loop-piece-init : goal.loop-piece-init
loop-piece-init c =
    let parts = slice_split (λ x. is_the_word c.args.connective.now (lexeme_seen x)) c.args.lexemes.now in
    ap (λ xs. with_front (map seen_event xs) (each_some event_of (map (map lexeme_seen) parts)))
    c.new-found.ensures.items
    ∙ front_nil (each_some event_of (map (map lexeme_seen) parts))
    ∙ ap (each_some event_of) (sym (slice_split-map lexeme_seen (is_the_word c.args.connective.now) c.args.lexemes.now))

pub loop-piece-preserved : goal.loop-piece-preserved
loop-piece-preserved c =
    let parts = slice_split (λ x. is_the_word c.args.connective.now (lexeme_seen x)) c.args.lexemes.now in
    let k = length c.loop-piece.yielded in
    let done = map seen_event c.loop-piece.found.items in
    let t = split_turn _ _ _ (λ x. is_the_word c.args.connective.now
    (lexeme_seen x)) c.args.lexemes.now c.loop-piece.yielded c.loop-piece.yielded_by c.in-Some.is c.next.ensures.steps
    (cc) (cc) (ap split_callee c.into_iter-piece-iterator.ensures.into_iter_gives
    ∙ c.split-piece-items.ensures.closure) (λ x b q k. search (rules, tests)) in
    let h : event_of (map lexeme_seen c.in-Some.piece.now)
    ≡ Some (seen_event c.in-Some-event_of.event) = sym c.event_of.ensures
    ∙ ap (option_map seen_event) c.in-Some-event_of.is in
    ap (λ m. with_front (map seen_event c.push.new.self.items)
    (each_some event_of (map (map lexeme_seen) (drop m parts))))
    (length_push c.loop-piece.yielded c.in-Some.piece)
    ∙ ap (λ xs. with_front (map seen_event xs)
    (each_some event_of (map (map lexeme_seen) (drop (k + 1) parts)))) c.in_ok-push-in-Some-event_of.ensures.items
    ∙ ap (λ ys. with_front ys (each_some event_of (map (map lexeme_seen) (drop (k + 1) parts))))
    (map-append seen_event c.loop-piece.found.items (c.in-Some-event_of.event ∷ []))
    ∙ sym (some_more event_of done (map lexeme_seen c.in-Some.piece.now) (map (map lexeme_seen) (drop (k + 1) parts))
    (seen_event c.in-Some-event_of.event) h)
    ∙ ap (λ ps. with_front done (each_some event_of (map (map lexeme_seen) ps)))
    (sym (from_line parts k c.in-Some.piece.now t.0 t.1))
    ∙ c.loop-piece.invariant

pub returns-in-None-event_of : goal.returns-in-None-event_of
returns-in-None-event_of c =
    let parts = slice_split (λ x. is_the_word c.args.connective.now (lexeme_seen x)) c.args.lexemes.now in
    let k = length c.loop-piece.yielded in
    let done = map seen_event c.loop-piece.found.items in
    let t = split_turn _ _ _ (λ x. is_the_word c.args.connective.now
    (lexeme_seen x)) c.args.lexemes.now c.loop-piece.yielded c.loop-piece.yielded_by c.in-Some.is c.next.ensures.steps
    (cc) (cc) (ap split_callee c.into_iter-piece-iterator.ensures.into_iter_gives
    ∙ c.split-piece-items.ensures.closure) (λ x b q k. search (rules, tests)) in (
      refl,
      sym c.loop-piece.invariant ∙ ap (λ ps. with_front done (each_some event_of (map (map lexeme_seen) ps)))
          (from_line parts k c.in-Some.piece.now t.0 t.1)
          ∙ some_none event_of done (map lexeme_seen c.in-Some.piece.now) (map (map lexeme_seen) (drop (k + 1) parts))
          (sym c.event_of.ensures ∙ ap (option_map seen_event) c.in-None-event_of.is),
    )

pub returns : goal.returns
returns c =
    let parts = slice_split (λ x. is_the_word c.args.connective.now (lexeme_seen x)) c.args.lexemes.now in
    let done = map seen_event c.loop-piece.found.items in
    let e = split_end _ _ _ (λ x. is_the_word c.args.connective.now
    (lexeme_seen x)) c.args.lexemes.now c.loop-piece.yielded c.loop-piece.yielded_by c.in-None.is c.next.ensures.steps
    (cc) (cc) (ap split_callee c.into_iter-piece-iterator.ensures.into_iter_gives
    ∙ c.split-piece-items.ensures.closure) (λ x b q k. search (rules, tests)) in
    let le : length parts ≤ length c.loop-piece.yielded = omega
    (arith, length-map c.loop-piece.yielded (λ x. x.now), ap length e) in
    sym c.loop-piece.invariant ∙ at_drop_all
    (λ ps. with_front done (each_some event_of (map (map lexeme_seen) ps))) parts
    (length c.loop-piece.yielded) le ∙ ap Some (append-nil done)
