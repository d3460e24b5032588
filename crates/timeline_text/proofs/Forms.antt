-- A text without a cause is the text of its columns.
use Rattle.std.proofs.Common.{◌≡◌, ℕ, ◌<◌, ◌==◌, Bool, true, false, not, List, [], ◌∷◌, map, length, refl, ap, sym}
use Rattle.std.proofs.{Common.{◌∙◌, arith}, lemmas.Bool.Decides.nat_tests, lemmas.List.length-map}
use Rattle.std.proofs.lemmas.List.Splits.{slice_split-cons_yes, slice_split-cons_no, length-slice_split}
use Rattle.std.proofs.{lemmas.List.Splits.join_with_byte-slice_split, lemmas.Bool.{or_parts, or_from, not-false}}
use Rattle.std.specs.List.{onto_first, join_with_byte, list_any, AllByRecursion}
use Rattle.tier_core.specs.{declared.sym.Sym.Sym, Symbols.byte_of, Timelines.{has_edge, IsReduced}}
use Rattle.timeline_text.specs.{Texts.text_of, Bytes.is_space}
use Rattle.timeline_text.specs.Causes.{is_known, spaced_pieces, symbol_of_byte, columns_of}
use Rattle.timeline_text.proofs.Searches.{by_test}

known_back : (b : ℕ) → is_space b ≡ false → not (is_known b) ≡ false → byte_of (symbol_of_byte b) ≡ b
known_back b h k = grind (arith, nat_tests)

onto_map : (b : ℕ) (ps : List (List ℕ)) → map (map byte_of) (map (map symbol_of_byte) (onto_first b ps))
    ≡ onto_first (byte_of (symbol_of_byte b)) (map (map byte_of) (map (map symbol_of_byte) ps))
onto_map b [] = refl
onto_map b (p ∷ ps) = refl

-- the texts of the columns are the pieces
pub pieces_back : (bytes : List ℕ) → list_any (λ b. not (is_known b)) bytes ≡ false
    → map (map byte_of) (columns_of bytes) ≡ spaced_pieces bytes
pieces_back [] h = refl
pieces_back (b ∷ bytes) h =
    let each = or_parts _ _ h in
    let rest = pieces_back bytes each.1 in
    by_test (is_space b)
    (λ e.
    let s = slice_split-cons_yes is_space b bytes e in
    ap (λ ps. map (map byte_of) (map (map symbol_of_byte) ps)) s ∙ ap (λ ps. [] ∷ ps) rest ∙ sym s)
    (λ e.
    let s = slice_split-cons_no is_space b bytes e in
    ap (λ ps. map (map byte_of) (map (map symbol_of_byte) ps)) s ∙ onto_map b (spaced_pieces bytes)
    ∙ ap (λ x. onto_first x (map (map byte_of) (columns_of bytes))) (known_back b e each.0) ∙ ap (onto_first b) rest
    ∙ sym s)

text_of_some : (T : List (List Sym)) → 0 < length T → text_of T ≡ join_with_byte 32 (map (map byte_of) T)
text_of_some [] h = absurd (omega arith)
text_of_some (column ∷ T) h = refl

pub length_columns : (bytes : List ℕ) → length (columns_of bytes) ≡ length (spaced_pieces bytes)
length_columns bytes = length-map (spaced_pieces bytes) (map symbol_of_byte)

-- a text of known bytes is the text of its columns
pub text_back : (bytes : List ℕ) → list_any (λ b. not (is_known b)) bytes ≡ false → bytes ≡ text_of (columns_of bytes)
text_back bytes h =
    let n = length-slice_split is_space bytes in
    let m = length_columns bytes in
    sym (text_of_some (columns_of bytes) (omega arith) ∙ ap (join_with_byte 32) (pieces_back bytes h)
    ∙ join_with_byte-slice_split 32 bytes)

same_from : (m n : ℕ) → not (m == n) ≡ false → m ≡ n
same_from m n h = grind (arith, nat_tests)

same_back : (m n : ℕ) → m ≡ n → not (m == n) ≡ false
same_back m n h = grind (arith, nat_tests)

pub widths_from : (width : ℕ) (ps : List (List ℕ)) → list_any (λ p. not (length p == width)) ps ≡ false
    → AllByRecursion (λ column. length column ≡ width) (map (map symbol_of_byte) ps)
widths_from width [] h = tt
widths_from width (p ∷ ps) h =
    let each = or_parts (not (length p == width)) (list_any (λ q. not (length q == width)) ps) h in
    (length-map p symbol_of_byte ∙ same_from (length p) width each.0, widths_from width ps each.1)

false_from : (b : Bool) → b ≡ true → not b ≡ false
false_from true h = refl
false_from false h = cc

pub reduced_from : (T : List (List Sym)) → list_any (λ column. not (has_edge column)) T ≡ false → IsReduced T
reduced_from [] h = tt
reduced_from (column ∷ T) h = let each = or_parts _ _ h in (not-false _ each.0, reduced_from T each.1)

pub reduced_any : (T : List (List Sym)) → IsReduced T → list_any (λ column. not (has_edge column)) T ≡ false
reduced_any [] h = refl
reduced_any (column ∷ T) h = or_from _ _ (false_from _ h.0) (reduced_any T h.1)

pub widths_any : (width : ℕ) (T : List (List Sym)) → AllByRecursion (λ column. length column ≡ width) T
    → list_any (λ p. not (length p == width)) (map (map byte_of) T) ≡ false
widths_any width [] h = refl
widths_any width (column ∷ T) h =
    or_from _ _ (same_back _ _ (length-map column byte_of ∙ h.0)) (widths_any width T h.1)
