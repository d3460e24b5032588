-- The pieces of a line as lexemes.
use Rattle.std.proofs.Common.{◌≡◌, ℕ, ◌+◌, true, false, cond, not, List, [], ◌∷◌, ◌++◌, filter, length, refl, ap}
use Rattle.std.proofs.Common.{sym, ◌∙◌, append_assoc, append-nil, Option, Some, None, is_some, option_map}
use Rattle.timeline_text.specs.Bytes.{lines_of}
use Rattle.grammar_reader.specs.Pieces.{content, token_pieces, parts_of, is_spacing, marks_along, is_no_spacing}
use Rattle.grammar_reader.specs.{Pieces.{marks_of, marks_from}, Lexemes.{with_front, texts}}

pub none_of : {X : Type 0} (o : Option X) → is_some o ≡ false → o ≡ None
none_of None h = refl
none_of (Some x) h = cc

pub cons_front : {X : Type 0} (xs : List X) (y : X) (o : Option (List X))
    → with_front xs (option_map (λ ys. y ∷ ys) o) ≡ with_front (xs ++ y ∷ []) o
cons_front xs y None = refl
cons_front xs y (Some ys) = ap Some (sym (append_assoc xs (y ∷ []) ys))

texts_placed : (n at : ℕ) (ps : List (List ℕ))
    → texts (filter is_no_spacing (marks_along n at ps)) ≡ filter (λ p. not (is_spacing p)) ps
texts_placed n at [] = refl
texts_placed n at (p ∷ ps) =
    let ih = texts_placed n (at + length p) ps in
    elim (not (is_spacing p)) as (λ t. texts
    (cond t (record { text = p; at = at; line = n } ∷ filter is_no_spacing (marks_along n (at + length p) ps))
    (filter is_no_spacing (marks_along n (at + length p) ps)))
    ≡ cond t (p ∷ filter (λ q. not (is_spacing q)) ps) (filter (λ q. not (is_spacing q)) ps))
    [ true ↦ ap (λ qs. p ∷ qs) ih | false ↦ ih ]

-- the pieces of a text of one line
pub line_texts : (n : ℕ) (line : List ℕ) → lines_of line ≡ line ∷ [] → texts (marks_from n 0 line) ≡ parts_of line
line_texts n line e = ap (λ ls. texts (marks_of n 0 ls)) e ∙ ap texts (append-nil _)
    ∙ texts_placed n 0 (token_pieces (content line))

pub front_nil : {X : Type 0} (o : Option (List X)) → with_front [] o ≡ o
front_nil None = refl
front_nil (Some ys) = refl
