-- Fields that are put one after the other.
use Rattle.std.proofs.Common.{◌≡◌, ℕ, ◌+◌, ◌<◌, ◌≤◌, Option, List, [], ◌∷◌, ◌++◌, length, map, drop, get_or, codes}
use Rattle.std.proofs.{Common.{ap, sym, ◌∙◌}, lemmas.List.{at_drop_more, at_drop_all}}
use Rattle.std.specs.Prelude.{String, string_bytes}
use Rattle.tableau.specs.Layout.{Line, column, count_text, count_texts, fields, right, widest}

-- the name of this column and those after it
pub names_next : {A : Type 0} (lines : List Line) (names : List (String A)) (i : ℕ) (name : String A) (width : ℕ)
    (text : List ℕ) → i < length names → name ≡ get_or names i name → width ≡ widest (column i lines)
    → text ≡ string_bytes name
    → fields lines i (map string_bytes (drop i names))
    ≡ (codes " " ++ right width text) ++ fields lines (i + 1) (map string_bytes (drop (i + 1) names))
names_next lines names i name width text h is w t =
    let others = fields lines (i + 1) (map string_bytes (drop (i + 1) names)) in
    at_drop_more (λ ns. fields lines i (map string_bytes ns)) names i name h
    ∙ ap (λ n. fields lines i (map string_bytes (n ∷ drop (i + 1) names))) (sym is)
    ∙ ap (λ x. (codes " " ++ right x (string_bytes name)) ++ others) (sym w)
    ∙ ap (λ x. (codes " " ++ right width x) ++ others) (sym t)

pub names_all : {A : Type 0} (lines : List Line) (names : List (String A)) (i : ℕ) → length names ≤ i
    → fields lines i (map string_bytes (drop i names)) ≡ []
names_all lines names i h = at_drop_all (λ ns. fields lines i (map string_bytes ns)) names i h

-- the count of this column and those after it
pub counts_next : (lines : List Line) (worse : Option ℕ) (counts : List ℕ) (i width : ℕ) → i < length counts
    → width ≡ widest (column i lines) → fields lines i (count_texts worse i (drop i counts))
    ≡ (codes " " ++ right width (count_text worse i (get_or counts i 0)))
    ++ fields lines (i + 1) (count_texts worse (i + 1) (drop (i + 1) counts))
counts_next lines worse counts i width h w =
    let others = fields lines (i + 1) (count_texts worse (i + 1) (drop (i + 1) counts)) in
    at_drop_more (λ cs. fields lines i (count_texts worse i cs)) counts i 0 h
    ∙ ap (λ x. (codes " " ++ right x (count_text worse i (get_or counts i 0))) ++ others) (sym w)

pub counts_all : (lines : List Line) (worse : Option ℕ) (counts : List ℕ) (i : ℕ) → length counts ≤ i
    → fields lines i (count_texts worse i (drop i counts)) ≡ []
counts_all lines worse counts i h = at_drop_all (λ cs. fields lines i (count_texts worse i cs)) counts i h
