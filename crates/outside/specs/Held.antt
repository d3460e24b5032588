-- Files that are held in memory: the name and the bytes of each.
use Rattle.std.specs.Prelude.{ℕ, List, [], map, unwrap_or, Option, Some, String, Vec, string_bytes}
use Rattle.std.specs.Map.{lookup}
use Rattle.std.specs.Str.{bytes_eq}

-- the bytes of the file with this name, if it is held; if two share the name, those of the first
abbrev pub file_text : List (List ℕ × List ℕ) → List ℕ → Option (List ℕ)
file_text files name = lookup (λ known. bytes_eq known name) files

-- what contracts see of a name: one that is not held is an empty file
abbrev pub visible_text : List (List ℕ × List ℕ) → List ℕ → Option (List ℕ)
visible_text files name = Some (unwrap_or (file_text files name) [])

-- the files that a list of names and bytes holds
abbrev pub files_of : {Y Z : Type 0} → List (String Y × Vec ℕ Z) → List (List ℕ × List ℕ)
files_of files = map (λ f. (string_bytes f.0, f.1.items)) files
