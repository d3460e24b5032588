-- Lengths of texts, and the widths of fields.
use Rattle.std.proofs.Common.{◌≡◌, ℕ, zero, suc, ◌+◌, ◌-◌, ◌<◌, ◌≤◌, List, [], ◌∷◌, length, map, drop, get_or, max}
use Rattle.std.proofs.Common.{Option, refl, ap, sym, ◌∙◌, arith, length-append}
use Rattle.std.proofs.lemmas.List.{at_drop_more, at_drop_all, get_or_past, length-map}
use Rattle.std.specs.List.{join_with_byte}
use Rattle.tier_core.specs.{declared.sym.Sym.Sym, Symbols.byte_of}
use Rattle.timeline_text.specs.Texts.{text_of}
use Rattle.tableau.specs.declared.table.TableauRow.{TableauRow}
use Rattle.tableau.specs.Layout.{column, count_text, count_texts, firsts, row_line, spaces, widest}

-- a column takes a byte for each symbol, and one more before the next column
abbrev pub bytes_of : List (List Sym) → ℕ
bytes_of [] = 0
bytes_of (column ∷ columns) = length column + 1 + bytes_of columns

length_joined : (column : List Sym) (columns : List (List Sym))
    → length (join_with_byte 32 (map (map byte_of) (column ∷ columns))) + 1 ≡ bytes_of (column ∷ columns)
length_joined column [] = omega (arith, length-map column byte_of)
length_joined column (next ∷ columns) =
    omega (
      arith,
      length-append (map byte_of column) (32 ∷ join_with_byte 32 (map (map byte_of) (next ∷ columns))),
      length-map column byte_of,
      length_joined next columns,
    )

pub length_text : (T : List (List Sym)) → 0 < bytes_of T → length (text_of T) ≡ bytes_of T - 1
length_text [] h = absurd (omega arith)
length_text (column ∷ columns) h = omega (arith, length_joined column columns)

pub bytes_all : (T : List (List Sym)) (i : ℕ) → length T ≤ i → bytes_of (drop i T) ≡ 0
bytes_all T i h = at_drop_all bytes_of T i h

-- the width of the first texts of the rows, one row after the other
pub firsts_next : (rows : List TableauRow) (i : ℕ) (row : TableauRow) → i < length rows → row ≡ get_or rows i row
    → widest (firsts (map row_line (drop i rows)))
    ≡ max (length (text_of row.timeline)) (widest (firsts (map row_line (drop (i + 1) rows))))
firsts_next rows i row h is =
    at_drop_more (λ rs. widest (firsts (map row_line rs))) rows i row h
    ∙ ap (λ r. widest (firsts (map row_line (r ∷ drop (i + 1) rows)))) (sym is)

pub firsts_all : (rows : List TableauRow) (i : ℕ) → length rows ≤ i → widest (firsts (map row_line (drop i rows))) ≡ 0
firsts_all rows i h = at_drop_all (λ rs. widest (firsts (map row_line rs))) rows i h

-- and of their texts in column j
pub column_next : (j : ℕ) (rows : List TableauRow) (i : ℕ) (row : TableauRow) → i < length rows
    → row ≡ get_or rows i row
    → widest (column j (map row_line (drop i rows)))
    ≡ max (length (get_or (count_texts row.worse 0 row.counts.items) j []))
    (widest (column j (map row_line (drop (i + 1) rows))))
column_next j rows i row h is =
    at_drop_more (λ rs. widest (column j (map row_line rs))) rows i row h
    ∙ ap (λ r. widest (column j (map row_line (r ∷ drop (i + 1) rows)))) (sym is)

pub column_all : (j : ℕ) (rows : List TableauRow) (i : ℕ) → length rows ≤ i
    → widest (column j (map row_line (drop i rows))) ≡ 0
column_all j rows i h = at_drop_all (λ rs. widest (column j (map row_line rs))) rows i h

-- the widest of what stands in front and of what is left
pub wider : (width size more rest total : ℕ) → max width (max size rest) ≡ total → more ≡ max width size
    → max more rest ≡ total
wider width size more rest total h e = omega arith

-- the text of a count, and none beyond the counts
texts_at : (worse : Option ℕ) (j : ℕ) (counts : List ℕ) (k : ℕ) → k < length counts
    → get_or (count_texts worse j counts) k [] ≡ count_text worse (j + k) (get_or counts k 0)
texts_at worse j [] k h = absurd (omega arith)
texts_at worse j (count ∷ counts) zero h = ap (λ i. count_text worse i count) (omega arith)
texts_at worse j (count ∷ counts) (suc k) h =
    texts_at worse (j + 1) counts k (omega arith) ∙ ap (λ i. count_text worse i (get_or counts k 0)) (omega arith)

pub count_text_at : (worse : Option ℕ) (counts : List ℕ) (k : ℕ) → k < length counts
    → get_or (count_texts worse 0 counts) k [] ≡ count_text worse k (get_or counts k 0)
count_text_at worse counts k h = texts_at worse 0 counts k h
    ∙ ap (λ i. count_text worse i (get_or counts k 0)) (omega arith)

length-count_texts : (worse : Option ℕ) (j : ℕ) (counts : List ℕ) → length (count_texts worse j counts) ≡ length counts
length-count_texts worse j [] = refl
length-count_texts worse j (count ∷ counts) = let n = length-count_texts worse (j + 1) counts in omega arith

pub no_text_at : (worse : Option ℕ) (counts : List ℕ) (k : ℕ) → length counts ≤ k
    → get_or (count_texts worse 0 counts) k [] ≡ []
no_text_at worse counts k h = get_or_past (count_texts worse 0 counts) k []
    (omega (arith, length-count_texts worse 0 counts))

pub spaces_next : (n : ℕ) → 0 < n → spaces n ≡ 32 ∷ spaces (n - 1)
spaces_next zero h = absurd (omega arith)
spaces_next (suc n) h = ap (λ m. 32 ∷ spaces m) (omega arith)
