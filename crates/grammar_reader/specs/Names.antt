-- Names of tiers, letters and constraints.
use Rattle.std.specs.Prelude.{ℕ, Bool, false, not, List, [], ◌∷◌, length, nat_le, ◌&&◌, ◌||◌}
use Rattle.std.specs.List.{list_any, list_all}
use Rattle.std.specs.Str.{bytes_eq}
use Rattle.timeline_text.specs.Bytes.{is_digit}
use Rattle.grammar_reader.specs.Pieces.{is_letter, is_word_byte}
use Rattle.grammar_reader.specs.Statements.{is_connective}

abbrev pub begins_with_letter : List ℕ → Bool
begins_with_letter [] = false
begins_with_letter (b ∷ bs) = is_letter b

-- a word of at most 32 bytes that begins with a letter and is not a connective
abbrev pub is_name : List ℕ → Bool
is_name w = nat_le (length w) 32 && begins_with_letter w && list_all is_word_byte w && not (is_connective w)

-- a single letter or digit
abbrev pub is_letter_byte : List ℕ → Bool
is_letter_byte (b ∷ []) = is_letter b || is_digit b
is_letter_byte _ = false

-- whether some name is twice in a list
abbrev pub has_twice : List (List ℕ) → Bool
has_twice [] = false
has_twice (n ∷ ns) = list_any (bytes_eq n) ns || has_twice ns
