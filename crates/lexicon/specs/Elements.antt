-- What the table of a lexicon file contains. The definitions of tables are those of the crate
-- `toml`. The format is this project's own.
use Rattle.std.specs.Prelude.{ℕ, ◌==◌, ◌&&◌, Bool, not, nat_le, List, [], ◌∷◌, length, Option, Some, None, option_and_then, option_map, if◌then◌else◌, codes}
use Rattle.std.specs.List.{list_all}
use Rattle.toml.specs.Data.{Data, Items, no_items, item, Members, as_array, as_str, get, get_member}

-- the elements of an array, in order
abbrev pub list_of : Items → List Data
list_of no_items = []
list_of (item d ds) = d ∷ list_of ds

-- the elements under a key: none if the key is absent, and no list if it does not hold an array
abbrev pub elements_under : Option Data → Option (List Data)
elements_under None = Some []
elements_under (Some d) = option_map list_of (as_array d)

-- the elements of a lexicon's table
abbrev pub elements_of : Members → Option (List Data)
elements_of table = elements_under (get_member (codes "entry") table)

-- a byte of a name is not below 32, and not 127
abbrev pub is_name_byte : ℕ → Bool
is_name_byte b = nat_le 32 b && not (b == 127)

-- the name of an entry has 1 to 64 such bytes
abbrev pub is_entry_name : List ℕ → Bool
is_entry_name name = nat_le 1 (length name) && nat_le (length name) 64 && list_all is_name_byte name

-- the string under a key of an element, if the element is a table and has one there
abbrev pub text_under : List ℕ → Data → Option (List ℕ)
text_under key element = option_and_then as_str (get key element)

-- a name and a word, if the name is within its limit
abbrev pub named_word : List ℕ → List ℕ → Option (List ℕ × List ℕ)
named_word name word = if is_entry_name name then Some (name, word) else None

-- what an element writes: the name of an entry, and the word of its form
abbrev pub entry_words : Data → Option (List ℕ × List ℕ)
entry_words element = option_and_then (λ name. option_and_then (named_word name) (text_under (codes "form") element))
    (text_under (codes "name") element)
