-- The text of hits.
use Rattle.std.specs.Prelude.{ℕ, List, [], ◌∷◌, ◌++◌, codes, length, map, slice_index_or}
use Rattle.std.specs.List.{flat_map}
use Rattle.std.specs.Fmt.{decimal}
use Rattle.std.specs.String.{string_bytes}
use Rattle.answer_text.specs.Text.{lines_text}
use Rattle.lexicon.specs.declared.entry.Entry.{Entry}
use Rattle.timeline_text.specs.Texts.{text_of}
use Rattle.comprehend.specs.declared.hit.Hit.{Hit}

-- the names of entries
abbrev pub names_of : List Entry → List (List ℕ)
names_of entries = map (λ entry. string_bytes entry.name) entries

-- a hit says the name of its entry, and its example
abbrev pub hit_lines : List (List ℕ) → Hit → List (List ℕ)
hit_lines names hit = (codes "entry " ++ slice_index_or names hit.index []) ∷
    (codes "example " ++ text_of hit.example) ∷ []

-- how many hits there are, and then each of them
abbrev pub hits_text : List (List ℕ) → List Hit → List ℕ
hits_text names hits = lines_text ((codes "hits " ++ decimal (length hits)) ∷ flat_map (hit_lines names) hits)
