-- Words between separators, and lines between their ends, cut again.
use Rattle.std.proofs.Common.{◌≡◌, ℕ, suc, ◌+◌, ◌<◌, ◌==◌, not, Bool, true, false, cond, nat_lt, List, [], ◌∷◌}
use Rattle.std.proofs.Common.{◌++◌, length, drop, Option, Some, None, option_map, refl, ap, ◌∙◌, arith}
use Rattle.std.proofs.{Common.append_assoc, lemmas.Bool.or_parts, lemmas.Bool.Decides.nat_tests}
use Rattle.std.specs.List.{list_any, slice_split, position_or_len, onto_first}
use Rattle.answer_text.specs.Text.{lines_text}
use Rattle.timeline_text.specs.Bytes.{is_newline, lines_of}
use Rattle.answer_reader.specs.Cuts.{parts_at, cut, behind}
use Rattle.answer_reader.proofs.Sets.{begins_front, drop_front, take_front}

-- ---- fronts

pub behind_front : (front rest : List ℕ) → behind front (front ++ rest) ≡ Some rest
behind_front front rest =
    ap (λ t. cond t (Some (drop (length front) (front ++ rest))) None) (begins_front front rest)
    ∙ ap (λ (xs : List ℕ). let r = Some xs in r) (drop_front front rest)

-- ---- words

pub one_further : (t : Bool) (m n : ℕ) → t ≡ false → m ≡ n → cond (not t) (1 + m) 0 ≡ suc n
one_further true m n h e = absurd (let bad = h in cc)
one_further false m n h e = omega arith

place_of : (b : ℕ) (word rest : List ℕ) → list_any (λ x. x == b) word ≡ false → (b == b) ≡ true
    → position_or_len (λ x. x == b) (word ++ b ∷ rest) ≡ length word
place_of b [] rest h e = ap (λ t. cond (not t) (1 + position_or_len (λ x. x == b) rest) 0) e
place_of b (w ∷ word) rest h e =
    let p = or_parts _ _ h in
    one_further _ _ _ p.0 (place_of b word rest p.1 e)

within : (word rest : List ℕ) (b : ℕ) → length word < length (word ++ b ∷ rest)
within [] rest b = omega arith
within (w ∷ word) rest b = let l = within word rest b in omega arith

found : (k n : ℕ) → k < n → cond (nat_lt k n) (Some k) None ≡ Some k
found k n l = grind (arith, nat_tests)

after_suc : (word rest : List ℕ) (b : ℕ) → drop (suc (length word)) (word ++ b ∷ rest) ≡ rest
after_suc [] rest b = refl
after_suc (w ∷ word) rest b = after_suc word rest b

after : (word rest : List ℕ) (b : ℕ) → drop (length word + 1) (word ++ b ∷ rest) ≡ rest
after word rest b = let e : length word + 1 ≡ suc (length word) = omega arith in ap (λ k. drop k (word ++ b ∷ rest)) e
    ∙ after_suc word _ b

pub cut_word : (b : ℕ) (word rest : List ℕ) → (b == b) ≡ true → list_any (λ x. x == b) word ≡ false
    → cut b (word ++ b ∷ rest) ≡ Some (word, rest)
cut_word b word rest e h = ap (λ k. option_map (parts_at (word ++ b ∷ rest))
    (cond (nat_lt k (length (word ++ b ∷ rest))) (Some k) None)) (place_of b _ _ h e) ∙ ap
    (option_map (parts_at (word ++ b ∷ rest))) (found _ _ (within _ _ b))
    ∙ ap (λ (xs : List ℕ). let r = Some (xs, drop (length word + 1) (word ++ b ∷ rest)) in
    r) (take_front _ _)
    ∙ ap (λ (xs : List ℕ). let r = Some (word, xs) in r) (after word rest b)

-- ---- lines

-- a list cut at the first element that passes
pub split_word : (p : ℕ → Bool) (word : List ℕ) (b : ℕ) (rest : List ℕ) → p b ≡ true → list_any p word ≡ false
    → slice_split p (word ++ b ∷ rest) ≡ word ∷ slice_split p rest
split_word p [] b rest e h = ap (λ t. cond t ([] ∷ slice_split p rest) (onto_first b (slice_split p rest))) e
split_word p (w ∷ word) b rest e h =
    let q = or_parts _ _ h in
    ap (λ t. cond t ([] ∷ slice_split p (word ++ b ∷ rest)) (onto_first w (slice_split p (word ++ b ∷ rest)))) q.0
    ∙ ap (onto_first w) (split_word p word b rest e q.1)

-- no end of a line is in any of them
abbrev pub AreLines : List (List ℕ) → Type 0
AreLines [] = Unit {0}
AreLines (bytes ∷ lines) = (list_any is_newline bytes ≡ false) × AreLines lines

pub lines_back : (lines : List (List ℕ)) → AreLines lines → lines_of (lines_text lines) ≡ lines ++ [] ∷ []
lines_back [] are = refl
lines_back (bytes ∷ lines) are = ap lines_of (append_assoc bytes (10 ∷ []) (lines_text lines)) ∙ split_word _ _ 10 _
    refl are.0 ∙ ap (λ ls. bytes ∷ ls) (lines_back lines are.1)

pub both_lines : (xs ys : List (List ℕ)) → AreLines xs → AreLines ys → AreLines (xs ++ ys)
both_lines [] ys a b = b
both_lines (x ∷ xs) ys a b = (a.0, both_lines xs ys a.1 b)
