-- The lexemes of a line that is joined from words, with a space between each two.
use Rattle.std.proofs.{lemmas.Bool.{and_parts, and_from, or_from, not-true}, Common.{◌≡◌, ℕ, Bool, true, false, cond}}
use Rattle.std.proofs.Common.{not, ◌&&◌, ◌==◌, List, [], ◌∷◌, ◌++◌, filter, refl, ap, sym, ◌∙◌, append-nil, Option}
use Rattle.std.proofs.{Common.{Some, None, option_map, option_and_then}, lemmas.Grind.flat_map-append}
use Rattle.std.proofs.{lemmas.List.Elements.filter-append, lemmas.List.Folds.list_all-append}
use Rattle.std.proofs.lemmas.List.Splits.{slice_split-cons_yes, slice_split-cons_no}
use Rattle.std.specs.List.{list_all, flat_map, join_with_byte, onto_first}
use Rattle.tier_core.proofs.Bools.{and_false}
use Rattle.timeline_text.specs.Bytes.{is_newline, lines_of}
use Rattle.grammar_reader.specs.Pieces.{is_comment, content, is_word_byte, holds_together, goes_on, onto_piece}
use Rattle.grammar_reader.specs.{Pieces.{token_pieces, is_spacing, parts_of, Lexeme, lexeme_of}, Statements.each_some}
use Rattle.grammar_reader.specs.Canonical.{line_of_words}
use Rattle.grammar_reader.proofs.{Forms.both_some, Walk.{is_nil, content_keeps, apart}}

-- ---- bytes that are neither a line's end nor a comment's start

abbrev pub is_inner : ℕ → Bool
is_inner b = not (is_newline b) && not (is_comment b) && not (b == 13)

-- what an inner byte isn't
record Inner (b : ℕ) : Type 0 where
  newline : is_newline b ≡ false
  comment : is_comment b ≡ false
  return : (b == 13) ≡ false

inner_is : (b : ℕ) → is_inner b ≡ true → Inner b
inner_is b h =
    let x = and_parts (not (is_newline b) && not (is_comment b)) (not (b == 13)) h in
    let y = and_parts (not (is_newline b)) (not (is_comment b)) x.0 in
    record {
      newline = not-true (is_newline b) y.0;
      comment = not-true (is_comment b) y.1;
      return = not-true (b == 13) x.1;
    }

content_same : (line : List ℕ) → list_all is_inner line ≡ true → content line ≡ line
content_same [] h = refl
content_same (b ∷ line) h =
    let x = and_parts (is_inner b) (list_all is_inner line) h in
    let i = inner_is b x.0 in
    content_keeps b line (ap (λ t. t && is_nil line) i.return) i.comment ∙ ap (λ p. b ∷ p) (content_same line x.1)

-- the first line is what stands before its end
first_line : (line rest : List ℕ) → list_all is_inner line ≡ true
    → lines_of ((line ++ 10 ∷ []) ++ rest) ≡ line ∷ lines_of rest
first_line [] rest h = slice_split-cons_yes is_newline 10 rest refl
first_line (b ∷ line) rest h =
    let x = and_parts (is_inner b) (list_all is_inner line) h in
    slice_split-cons_no is_newline b ((line ++ 10 ∷ []) ++ rest) (inner_is b x.0).newline
    ∙ ap (onto_first b) (first_line line rest x.1)

-- ---- pieces between spaces

space_after : (a : ℕ) → holds_together a 32 ≡ false
space_after a = or_from (is_word_byte a && is_word_byte 32) ((a == 45) && (32 == 62)) (and_false (is_word_byte a))
    (and_false (a == 45))

space_before : (rest : List ℕ) → goes_on 32 rest ≡ false
space_before [] = refl
space_before (c ∷ rest) = refl

onto_space : (a : ℕ) (ps qs : List (List ℕ)) → onto_piece a (ps ++ (32 ∷ []) ∷ qs) ≡ onto_piece a ps ++ (32 ∷ []) ∷ qs
onto_space a [] qs = ap (λ t. cond t ((a ∷ 32 ∷ []) ∷ qs) ((a ∷ []) ∷ (32 ∷ []) ∷ qs)) (space_after a)
onto_space a (p ∷ ps) qs = elim (goes_on a p) as
    (λ t. cond t ((a ∷ p) ∷ (ps ++ (32 ∷ []) ∷ qs)) ((a ∷ []) ∷ p ∷ (ps ++ (32 ∷ []) ∷ qs))
    ≡ cond t ((a ∷ p) ∷ ps) ((a ∷ []) ∷ p ∷ ps) ++ (32 ∷ []) ∷ qs)
    [ true ↦ refl | false ↦ refl ]

pieces_space : (w rest : List ℕ) → token_pieces (w ++ 32 ∷ rest) ≡ token_pieces w ++ (32 ∷ []) ∷ token_pieces rest
pieces_space [] rest = apart 32 rest (space_before rest)
pieces_space (a ∷ w) rest = ap (onto_piece a) (pieces_space w rest) ∙ onto_space a (token_pieces w) (token_pieces rest)

-- the pieces of a text that are no spacing
abbrev pub tokens_in : List ℕ → List (List ℕ)
tokens_in text = filter (λ piece. not (is_spacing piece)) (token_pieces text)

tokens_space : (w rest : List ℕ) → tokens_in (w ++ 32 ∷ rest) ≡ tokens_in w ++ tokens_in rest
tokens_space w rest = ap (filter (λ piece. not (is_spacing piece))) (pieces_space w rest)
    ∙ filter-append (λ piece. not (is_spacing piece)) (token_pieces w) ((32 ∷ []) ∷ token_pieces rest)

tokens_joined : (ws : List (List ℕ)) → tokens_in (join_with_byte 32 ws) ≡ flat_map tokens_in ws
tokens_joined [] = refl
tokens_joined (w ∷ []) = sym (append-nil (tokens_in w))
tokens_joined (w ∷ v ∷ ws) = tokens_space w (join_with_byte 32 (v ∷ ws))
    ∙ ap (λ ts. tokens_in w ++ ts) (tokens_joined (v ∷ ws))

inner_joined : (ws : List (List ℕ)) → list_all (list_all is_inner) ws ≡ true
    → list_all is_inner (join_with_byte 32 ws) ≡ true
inner_joined [] h = refl
inner_joined (w ∷ []) h = (and_parts (list_all is_inner w) true h).0
inner_joined (w ∷ v ∷ ws) h =
    let x = and_parts (list_all is_inner w) (list_all (list_all is_inner) (v ∷ ws)) h in
    list_all-append is_inner w (32 ∷ join_with_byte 32 (v ∷ ws))
    ∙ and_from (list_all is_inner w) (list_all is_inner (join_with_byte 32 (v ∷ ws))) x.0
    (inner_joined (v ∷ ws) x.1)

-- ---- what is read of one list and of another

abbrev both : {Y : Type 0} → Option (List Y) → Option (List Y) → Option (List Y)
both o r = option_and_then (λ us. option_map (λ vs. us ++ vs) r) o

both_nil : {Y : Type 0} (o : Option (List Y)) → o ≡ both (Some []) o
both_nil None = refl
both_nil (Some vs) = refl

both_cons : {Y : Type 0} (y : Y) (o r : Option (List Y))
    → option_map (λ ys. y ∷ ys) (both o r) ≡ both (option_map (λ ys. y ∷ ys) o) r
both_cons y None r = refl
both_cons y (Some us) None = refl
both_cons y (Some us) (Some vs) = refl

both_first : {Y : Type 0} (m : Option Y) (o r : Option (List Y))
    → option_and_then (λ y. option_map (λ ys. y ∷ ys) (both o r)) m
    ≡ both (option_and_then (λ y. option_map (λ ys. y ∷ ys) o) m) r
both_first None o r = refl
both_first (Some y) o r = both_cons y o r

each_both : {X Y : Type 0} (f : X → Option Y) (xs ys : List X)
    → each_some f (xs ++ ys) ≡ both (each_some f xs) (each_some f ys)
each_both f [] ys = both_nil (each_some f ys)
each_both f (x ∷ xs) ys = ap (λ o. option_and_then (λ y. option_map (λ zs. y ∷ zs) o) (f x)) (each_both f xs ys)
    ∙ both_first (f x) (each_some f xs) (each_some f ys)

each_append : {X Y : Type 0} (f : X → Option Y) (xs ys : List X) (us vs : List Y) → each_some f xs ≡ Some us
    → each_some f ys ≡ Some vs → each_some f (xs ++ ys) ≡ Some (us ++ vs)
each_append f xs ys us vs h k = each_both f xs ys
    ∙ both_some (λ a b. a ++ b) us vs (each_some f xs) (each_some f ys) h k

-- ---- words

-- a word that is read as these lexemes
pub record IsRead (w : List ℕ) (ls : List Lexeme) : Type 0 where
  pub inner : list_all is_inner w ≡ true
  pub lexemes : each_some lexeme_of (tokens_in w) ≡ Some ls

-- words that are read, one after the other, as these lexemes
pub record AreRead (ws : List (List ℕ)) (ls : List Lexeme) : Type 0 where
  pub inner : list_all (list_all is_inner) ws ≡ true
  pub lexemes : each_some lexeme_of (flat_map tokens_in ws) ≡ Some ls

pub read_none : AreRead [] []
read_none = record { inner = refl; lexemes = refl }

pub read_next : (w : List ℕ) (ls : List Lexeme) (ws : List (List ℕ)) (ms : List Lexeme) → IsRead w ls → AreRead ws ms
    → AreRead (w ∷ ws) (ls ++ ms)
read_next w ls ws ms a b = record {
  inner = and_from (list_all is_inner w) (list_all (list_all is_inner) ws) a.inner b.inner;
  lexemes = each_append lexeme_of (tokens_in w) (flat_map tokens_in ws) ls ms a.lexemes b.lexemes;
}

pub read_both : (ws : List (List ℕ)) (ls : List Lexeme) (vs : List (List ℕ)) (ms : List Lexeme) → AreRead ws ls
    → AreRead vs ms → AreRead (ws ++ vs) (ls ++ ms)
read_both ws ls vs ms a b = record {
  inner = list_all-append (list_all is_inner) ws vs
      ∙ and_from (list_all (list_all is_inner) ws) (list_all (list_all is_inner) vs) a.inner b.inner;
  lexemes = ap (each_some lexeme_of) (flat_map-append tokens_in ws vs)
      ∙ each_append lexeme_of (flat_map tokens_in ws) (flat_map tokens_in vs) ls ms a.lexemes b.lexemes;
}

-- ---- lines

pub line_lexemes : (ws : List (List ℕ)) (ls : List Lexeme) → AreRead ws ls
    → each_some lexeme_of (parts_of (join_with_byte 32 ws)) ≡ Some ls
line_lexemes ws ls r = ap (λ q. each_some lexeme_of (tokens_in q))
    (content_same (join_with_byte 32 ws) (inner_joined ws r.inner)) ∙ ap (each_some lexeme_of) (tokens_joined ws)
    ∙ r.lexemes

pub line_first : (ws : List (List ℕ)) (ls : List Lexeme) (rest : List ℕ) → AreRead ws ls
    → lines_of (line_of_words ws ++ rest) ≡ join_with_byte 32 ws ∷ lines_of rest
line_first ws ls rest r = first_line (join_with_byte 32 ws) rest (inner_joined ws r.inner)
