-- The text of a line, word by word, and of lines, one after the other.
use Rattle.std.proofs.Common.{◌≡◌, ℕ, List, [], ◌∷◌, ◌++◌, map, ap, sym, ◌∙◌, append_assoc}
use Rattle.std.specs.List.{join_with_byte, flat_map}
use Rattle.grammar_reader.specs.Canonical.{line_of_words}

-- the first word, the others, each after a space, and the line's end
line_cons : {X : Type 0} (f : X → List ℕ) (x : X) (xs : List X)
    → (f x ++ flat_map (λ y. 32 ∷ f y) xs) ++ 10 ∷ [] ≡ line_of_words (f x ∷ map f xs)
line_cons f x [] = append_assoc (f x) [] (10 ∷ [])
line_cons f x (y ∷ ys) =
    append_assoc (f x) (32 ∷ (f y ++ flat_map (λ y. 32 ∷ f y) ys)) (10 ∷ [])
    ∙ ap (λ t. f x ++ 32 ∷ t) (line_cons f y ys)
    ∙ sym (append_assoc (f x) (32 ∷ join_with_byte 32 (f y ∷ map f ys)) (10 ∷ []))

pub line_text : {X : Type 0} (f : X → List ℕ) {words : List X} {first : X} {others : List X} → words ≡ first ∷ others
    → (f first ++ flat_map (λ y. 32 ∷ f y) others) ++ 10 ∷ [] ≡ line_of_words (map f words)
line_text f {first = first} {others = others} e = line_cons f first others ∙ ap (λ ws. line_of_words (map f ws)) (sym e)

-- the lines of a list, of which the first has these words
pub next_line : {X : Type 0} (f : X → List (List ℕ)) {all : List X} {x : X} {rest : List X} {words : List (List ℕ)}
    → all ≡ x ∷ rest → words ≡ f x
    → flat_map (λ y. line_of_words (f y)) all ≡ line_of_words words ++ flat_map (λ y. line_of_words (f y)) rest
next_line f {rest = rest} cuts has =
    ap (flat_map (λ y. line_of_words (f y))) cuts
    ∙ ap (λ ws. line_of_words ws ++ flat_map (λ y. line_of_words (f y)) rest) (sym has)
