-- The text of a tableau, field by field. This text is of this project's own making.
use Rattle.std.specs.Prelude.{ℕ, ◌+◌, ◌-◌, ◌==◌, Bool, false, if◌then◌else◌, List, [], ◌∷◌, ◌++◌, length, map, max, replicate, slice_index_or, codes, Option, Some, None, is_some}
use Rattle.std.specs.List.{flat_map}
use Rattle.std.specs.Fmt.{decimal}
use Rattle.std.specs.String.{string_bytes}
use Rattle.timeline_text.specs.Texts.{text_of}
use Rattle.tableau.specs.declared.table.Tableau.{Tableau}
use Rattle.tableau.specs.declared.table.TableauRow.{TableauRow}

-- A line before it is laid out: its mark, its first text, and the texts of its columns.
pub record Line : Type 0 where
  pub mark : List ℕ
  pub first : List ℕ
  pub texts : List (List ℕ)

-- `> ` before an optimal row
abbrev pub row_mark : Option ℕ → List ℕ
row_mark worse = if is_some worse then codes "  " else codes "> "

-- whether a column is that of the first worse constraint
abbrev pub is_at : Option ℕ → ℕ → Bool
is_at None j = false
is_at (Some worse) j = worse == j

-- a count, and `!` after it at the first worse constraint
abbrev pub count_text : Option ℕ → ℕ → ℕ → List ℕ
count_text worse j count = decimal count ++ (if is_at worse j then codes "!" else [])

-- the texts of counts, the first of which is that of column j
abbrev pub count_texts : Option ℕ → ℕ → List ℕ → List (List ℕ)
count_texts worse j [] = []
count_texts worse j (count ∷ counts) = count_text worse j count ∷ count_texts worse (j + 1) counts

-- the line of the form and the names of the constraints
abbrev pub head_line : Tableau → Line
head_line tableau = record {
  mark = codes "  ";
  first = text_of tableau.form;
  texts = map string_bytes tableau.names.items;
}

abbrev pub row_line : TableauRow → Line
row_line row = record {
  mark = row_mark row.worse;
  first = text_of row.timeline;
  texts = count_texts row.worse 0 row.counts.items;
}

abbrev pub tableau_lines : Tableau → List Line
tableau_lines tableau = head_line tableau ∷ map row_line tableau.rows.items

-- the length of the longest text
abbrev pub widest : List (List ℕ) → ℕ
widest [] = 0
widest (text ∷ texts) = max (length text) (widest texts)

-- the first text of each line
abbrev pub firsts : List Line → List (List ℕ)
firsts lines = map (λ line. line.first) lines

-- the text of each line in column j
abbrev pub column : ℕ → List Line → List (List ℕ)
column j lines = map (λ line. slice_index_or line.texts j []) lines

abbrev pub spaces : ℕ → List ℕ
spaces n = replicate n 32

-- a text aligned to the left in a field, and to the right
abbrev pub left : ℕ → List ℕ → List ℕ
left width text = text ++ spaces (width - length text)

abbrev pub right : ℕ → List ℕ → List ℕ
right width text = spaces (width - length text) ++ text

-- Each text is aligned to the right in the field of its column, which is as wide as the widest text in
-- it, after one space. The first text is that of column j.
abbrev pub fields : List Line → ℕ → List (List ℕ) → List ℕ
fields lines j [] = []
fields lines j (text ∷ texts) = codes " " ++ right (widest (column j lines)) text ++ fields lines (j + 1) texts

-- the mark, the first text aligned to the left in its field, and the fields of the columns
abbrev pub line_text : List Line → Line → List ℕ
line_text lines line = line.mark ++ left (widest (firsts lines)) line.first ++ fields lines 0 line.texts ++ codes "\n"

-- the text of lines, one after another
abbrev pub laid_out : List Line → List ℕ
laid_out lines = flat_map (line_text lines) lines

-- the text of a tableau
abbrev pub tableau_text : Tableau → List ℕ
tableau_text tableau = laid_out (tableau_lines tableau)
