-- Lines of a text, cut one by one.
use Rattle.std.proofs.Common.{◌≡◌, ℕ, ◌+◌, ◌==◌, ◌<◌, ◌≤◌, ◌&&◌, Bool, true, false, List, [], ◌∷◌, ◌++◌, length}
use Rattle.std.proofs.Common.{take, drop, Option, Some, None, option_map, position, refl, ap, sym, ◌∙◌, arith}
use Rattle.std.proofs.{Common.{nat_eq, ne_eqb}, lemmas.Bool.{false≢true, or_parts}, lemmas.Bool.Decides.nat_tests}
use Rattle.std.proofs.lemmas.List.Splits.{slice_split_none, slice_split_first, join_with_byte-slice_split}
use Rattle.std.proofs.{lemmas.List.Splits.length-slice_split, lemmas.List.Sums.fails_before_first}
use Rattle.std.specs.{List.{position_or_len, list_any, join_with_byte}, Str.bytes_eq}
use Rattle.timeline_text.specs.Bytes.{is_newline, lines_of}
use Rattle.answer_reader.specs.Cuts.{parts_at, cut, begins}

-- there is always something left
pub some_left : (bytes : List ℕ) → 0 < length (lines_of bytes)
some_left bytes = let n = length-slice_split is_newline bytes in omega arith

position_none : (p : ℕ → Bool) (xs : List ℕ) → position p xs ≡ None → length xs ≤ position_or_len p xs
position_none p xs h = grind (arith, nat_tests)

position_some : (p : ℕ → Bool) (xs : List ℕ) (k : ℕ) → position p xs ≡ Some k
    → (position_or_len p xs < length xs) × (k ≡ position_or_len p xs)
position_some p xs k h = grind (arith, nat_tests)

none_cut : (b : ℕ) (bytes : List ℕ) (o : Option ℕ) → position (λ x. x == b) bytes ≡ o → option_map (parts_at bytes) o
    ≡ None → position (λ x. x == b) bytes ≡ None
none_cut b bytes None e h = e
none_cut b bytes (Some k) e h = absurd (let n : ⊥ = cc in n)

-- a text without an end of a line is left as it is
pub not_cut : (bytes : List ℕ) → cut 10 bytes ≡ None → lines_of bytes ≡ bytes ∷ []
not_cut bytes h =
    let le = position_none is_newline bytes (none_cut 10 bytes (position (λ x. x == 10) bytes) refl h) in
    slice_split_none is_newline bytes (λ k d l. fails_before_first is_newline bytes k d (omega arith))

pub record IsCut (b : ℕ) (bytes : List ℕ) (parts : List ℕ × List ℕ) : Type 0 where
  pub place : ℕ
  pub at : position (λ x. x == b) bytes ≡ Some place
  pub before : parts.0 ≡ take place bytes
  pub after : parts.1 ≡ drop (place + 1) bytes

some_cut : (b : ℕ) (bytes : List ℕ) (parts : List ℕ × List ℕ) (o : Option ℕ) → position (λ x. x == b) bytes ≡ o
    → option_map (parts_at bytes) o ≡ Some parts → IsCut b bytes parts
some_cut b bytes parts None e h = absurd (let n : ⊥ = cc in n)
some_cut b bytes parts (Some k) e h =
    let is : parts_at bytes k ≡ parts = cc in
    record { place = k; at = e; before = ap (λ p. p.0) (sym is); after = ap (λ p. p.1) (sym is) }

pub is_cut : (b : ℕ) (bytes : List ℕ) (parts : List ℕ × List ℕ) → cut b bytes ≡ Some parts → IsCut b bytes parts
is_cut b bytes parts h = some_cut b _ _ _ refl h

-- a line ends at the first end of a line
pub line_cut : (bytes : List ℕ) (parts : List ℕ × List ℕ) → cut 10 bytes ≡ Some parts → lines_of bytes
    ≡ parts.0 ∷ lines_of parts.1
line_cut bytes parts h =
    let c = is_cut 10 _ _ h in
    let p = position_some is_newline bytes _ c.at in
    slice_split_first is_newline bytes 0 p.0
    ∙ ap (λ k. take k bytes ∷ lines_of (drop (k + 1) bytes)) (sym p.1)
    ∙ ap (λ x. x ∷ lines_of (drop (c.place + 1) bytes)) (sym c.before) ∙ ap (λ x. parts.0 ∷ lines_of x) (sym c.after)

-- ---- a front of what is left is a front of the next line

front_at : (word line tail : List ℕ) → list_any is_newline word ≡ false → begins word (line ++ 10 ∷ tail)
    ≡ begins word line
front_at [] line tail h = refl
front_at (w ∷ word) [] tail h = ap (λ t. t && bytes_eq (take (length word) tail) word)
    (ne_eqb 10 w (λ e. false≢true (sym (or_parts _ _ h).0 ∙ is_ten w (sym e))))
  where
    is_ten : (n : ℕ) → n ≡ 10 → (n == 10) ≡ true
    is_ten n e = ap (λ m. m == 10) e
front_at (w ∷ word) (b ∷ line) tail h = ap (λ t. nat_eq b w && t) (front_at word line tail (or_parts _ _ h).1)

pub begins_line : (word bytes line next : List ℕ) (lines : List (List ℕ)) → list_any is_newline word ≡ false
    → lines_of bytes ≡ line ∷ next ∷ lines → begins word bytes ≡ begins word line
begins_line word bytes line next lines n e =
    let whole = sym (join_with_byte-slice_split 10 _) ∙ ap (join_with_byte 10) e in
    ap (begins word) whole ∙ front_at word line (join_with_byte 10 (next ∷ lines)) n
