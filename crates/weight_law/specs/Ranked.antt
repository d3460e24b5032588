-- Vectors of violations as weights: added part by part, and compared from the first part on.
use Rattle.std.specs.Prelude.{◌≡◌, ℕ, ◌+◌, ◌-◌, ◌==◌, max, List, [], ◌∷◌, ◌++◌, replicate, length}
use Rattle.std.specs.Ordering.{nat_cmp, is_lt}
use Rattle.std.specs.Cmp.Lexicographic.{slice_cmp}
use Rattle.weight_law.specs.Meaning.{Meaning}
use Rattle.weight_law.specs.declared.ranked.Ranked.{Ranked}

-- the greatest part
abbrev pub greatest_part : List ℕ → ℕ
greatest_part [] = 0
greatest_part (x ∷ xs) = max x (greatest_part xs)

-- the sums of two lists of numbers, part by part
abbrev pub add_each : List ℕ → List ℕ → List ℕ
add_each [] ys = []
add_each (x ∷ xs) [] = []
add_each (x ∷ xs) (y ∷ ys) = (x + y) ∷ add_each xs ys

-- a vector of at most 24 numbers as parts, with zeros after it
abbrev pub parts_of_vector : List ℕ → List ℕ
parts_of_vector v = v ++ replicate (24 - length v) 0

abbrev pub ranked_of : List ℕ → Ranked
ranked_of xs = record { parts = xs }

-- a weight is that of a vector
abbrev pub IsOfVector : Ranked → List ℕ → Type 0
IsOfVector w v = w.parts ≡ parts_of_vector v

abbrev pub ranked_meaning : Meaning Ranked
ranked_meaning = record {
  zero = ranked_of (replicate 24 0);
  size = λ a. greatest_part a.parts;
  lawful = λ a. length a.parts == 24;
  sum = λ a b. ranked_of (add_each a.parts b.parts);
  below = λ a b. is_lt (slice_cmp nat_cmp a.parts b.parts);
}
