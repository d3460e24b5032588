-- The bytes of words.
use Rattle.std.specs.Prelude.{ℕ, List, map, String, string_bytes}

abbrev pub words_of : {Y : Type 0} → List (String Y) → List (List ℕ)
words_of words = map string_bytes words
