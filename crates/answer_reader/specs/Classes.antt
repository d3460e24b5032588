-- The text of a class, read tier by tier.
use Rattle.std.specs.Prelude.{ℕ, zero, suc, List, [], ◌∷◌, length, drop, Option, Some, None, option_map, option_and_then}
use Rattle.std.specs.List.{find, range_with_len}
use Rattle.answer_text.specs.Text.{set_text}
use Rattle.answer_reader.specs.Cuts.{begins}

-- the set, from 1 to 31, whose text is at the front
abbrev pub front_set : List ℕ → Option ℕ
front_set bytes = find (λ set. begins (set_text set) bytes) (range_with_len 1 31)

abbrev pub behind_set : List ℕ → ℕ → ℕ × List ℕ
behind_set bytes set = (set, drop (length (set_text set)) bytes)

-- that set, and what follows it
unfoldable pub set_and_rest : List ℕ → Option (ℕ × List ℕ)
set_and_rest bytes = option_map (behind_set bytes) (front_set bytes)

-- one set for each tier, and nothing after them
abbrev pub class_of : ℕ → List ℕ → Option (List ℕ)
class_of zero [] = Some []
class_of zero (b ∷ bytes) = None
class_of (suc width) bytes = option_and_then (λ front. option_map (λ sets. front.0 ∷ sets) (class_of width front.1))
    (set_and_rest bytes)
