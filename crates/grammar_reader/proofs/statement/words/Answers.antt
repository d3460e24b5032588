use Rattle.std.proofs.{Common.{◌∙◌, refl, map, drop, ◌+◌, ap, sym, option_map}, lemmas.List.map_push}
use Rattle.grammar_reader.specs.{Statements.{each_some, word_of}, Lexemes.{lexeme_seen, with_front}}
use Rattle.grammar_reader.proofs.EachSome.{some_step, none_step}
use Rattle.grammar_reader.proofs.statement.words.Goals as goal

pub loop-lexeme-preserved : goal.loop-lexeme-preserved
loop-lexeme-preserved c =
    ap (λ xs. with_front (map (λ w. w.now) xs)
    (each_some word_of (map lexeme_seen (drop (c.loop-lexeme.lexeme-index + 1) c.args.lexemes.now))))
    c.in_ok-push-in-Some.ensures.items
    ∙ ap (λ ys. with_front ys
    (each_some word_of (map lexeme_seen (drop (c.loop-lexeme.lexeme-index + 1) c.args.lexemes.now))))
    (map_push (λ w. w.now) c.loop-lexeme.found.items c.in-Some.word)
    ∙ some_step word_of lexeme_seen (map (λ w. w.now) c.loop-lexeme.found.items) c.args.lexemes.now
    c.loop-lexeme.lexeme-index _ c.loop-lexeme-test.true c.in-Some.word.now
    (sym c.word_of.ensures ∙ ap (option_map (λ w. w.now)) c.in-Some.is)
    ∙ c.loop-lexeme.invariant

pub returns-in-None : goal.returns-in-None
returns-in-None c = (
  refl,
  sym c.loop-lexeme.invariant
      ∙ none_step word_of lexeme_seen (map (λ w. w.now) c.loop-lexeme.found.items) c.args.lexemes.now
      c.loop-lexeme.lexeme-index _ c.loop-lexeme-test.true
      (sym c.word_of.ensures ∙ ap (option_map (λ w. w.now)) c.in-None.is),
)
