-- Texts that are cut at spaces, and texts that are joined by them.
use Rattle.std.proofs.Common.{◌≡◌, ℕ, false, List, [], ◌∷◌, ◌++◌, map, refl, ap, ◌∙◌, codes}
use Rattle.std.proofs.lemmas.List.Splits.{slice_split-cons_yes, slice_split-cons_no}
use Rattle.std.specs.{List.{onto_first, join_with_byte}, Str.bytes_eq}
use Rattle.tier_core.specs.{Symbols.byte_of, declared.sym.Sym.Sym}
use Rattle.tier_core.specs.declared.sym.Sym.TheVariants.{Outside, Inside, Start, End, Both}
use Rattle.timeline_text.specs.{Texts.text_of, Bytes.is_space, Causes.{spaced_pieces, symbol_of_byte, columns_of}}

no_space : (s : Sym) → is_space (byte_of s) ≡ false
no_space Outside = refl
no_space Inside = refl
no_space Start = refl
no_space End = refl
no_space Both = refl

read_back : (s : Sym) → symbol_of_byte (byte_of s) ≡ s
read_back Outside = refl
read_back Inside = refl
read_back Start = refl
read_back End = refl
read_back Both = refl

column_back : (column : List Sym) → map symbol_of_byte (map byte_of column) ≡ column
column_back [] = refl
column_back (s ∷ column) = ap (λ x. x ∷ map symbol_of_byte (map byte_of column)) (read_back s)
    ∙ ap (λ xs. s ∷ xs) (column_back column)

-- a column, then a space
cut_space : (column : List Sym) (rest : List ℕ)
    → spaced_pieces (map byte_of column ++ (32 ∷ rest)) ≡ map byte_of column ∷ spaced_pieces rest
cut_space [] rest = slice_split-cons_yes is_space 32 rest refl
cut_space (s ∷ column) rest = slice_split-cons_no is_space (byte_of s) (map byte_of column ++ (32 ∷ rest))
    (no_space s) ∙ ap (onto_first (byte_of s)) (cut_space column rest)

cut_last : (column : List Sym) → spaced_pieces (map byte_of column) ≡ map byte_of column ∷ []
cut_last [] = refl
cut_last (s ∷ column) = slice_split-cons_no is_space (byte_of s) (map byte_of column) (no_space s)
    ∙ ap (onto_first (byte_of s)) (cut_last column)

-- the pieces of the text of a timeline are the texts of its columns
pub cut_back : (column : List Sym) (columns : List (List Sym))
    → spaced_pieces (text_of (column ∷ columns)) ≡ map (map byte_of) (column ∷ columns)
cut_back column [] = cut_last column
cut_back column (next ∷ columns) = cut_space column (join_with_byte 32 (map (map byte_of) (next ∷ columns)))
    ∙ ap (λ ps. map byte_of column ∷ ps) (cut_back next columns)

all_back : (columns : List (List Sym)) → map (map symbol_of_byte) (map (map byte_of) columns) ≡ columns
all_back [] = refl
all_back (column ∷ columns) = ap (λ x. x ∷ map (map symbol_of_byte) (map (map byte_of) columns)) (column_back column)
    ∙ ap (λ xs. column ∷ xs) (all_back columns)

pub columns_back : (column : List Sym) (columns : List (List Sym))
    → columns_of (text_of (column ∷ columns)) ≡ column ∷ columns
columns_back column columns = ap (map (map symbol_of_byte)) (cut_back column columns) ∙ all_back (column ∷ columns)

-- no column begins as `empty`
not_empty : (column : List Sym) (rest : List ℕ) → bytes_eq (map byte_of column ++ (32 ∷ rest)) (codes "empty") ≡ false
not_empty [] rest = refl
not_empty (Outside ∷ column) rest = refl
not_empty (Inside ∷ column) rest = refl
not_empty (Start ∷ column) rest = refl
not_empty (End ∷ column) rest = refl
not_empty (Both ∷ column) rest = refl

not_empty_last : (column : List Sym) → bytes_eq (map byte_of column) (codes "empty") ≡ false
not_empty_last [] = refl
not_empty_last (Outside ∷ column) = refl
not_empty_last (Inside ∷ column) = refl
not_empty_last (Start ∷ column) = refl
not_empty_last (End ∷ column) = refl
not_empty_last (Both ∷ column) = refl

-- the text of a timeline with columns is not the word `empty`
pub no_word : (column : List Sym) (columns : List (List Sym))
    → bytes_eq (text_of (column ∷ columns)) (codes "empty") ≡ false
no_word column [] = not_empty_last column
no_word column (next ∷ columns) = not_empty column (join_with_byte 32 (map (map byte_of) (next ∷ columns)))
