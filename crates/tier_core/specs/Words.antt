-- Constituents of one tier. A word is the list of a tier's symbols, one for each place.
use Rattle.std.specs.Prelude.{◌≡◌, ℕ, ◌<◌, ◌≤◌, ◌==◌, ◌&&◌, Bool, true, false, if◌then◌else◌, IsTrue, nat_lt, List, [], ◌∷◌, ◌++◌, length, Option, Some, None, slice_index_or, suc}
use Rattle.std.specs.List.{list_any}
use Rattle.tier_core.specs.declared.sym.Sym.{Sym}
use Rattle.tier_core.specs.declared.sym.Sym.TheVariants.{Outside, Inside, Start, End, Both}

abbrev pub starts : Sym → Bool
starts Outside = false
starts Inside = false
starts Start = true
starts End = false
starts Both = true

abbrev pub ends : Sym → Bool
ends Outside = false
ends Inside = false
ends Start = false
ends End = true
ends Both = true

abbrev pub is_inside_sym : Sym → Bool
is_inside_sym Outside = false
is_inside_sym Inside = true
is_inside_sym Start = false
is_inside_sym End = false
is_inside_sym Both = false

-- the first place with an end, in a word whose places are numbered from i on
abbrev pub next_end : ℕ → List Sym → Option ℕ
next_end i [] = None
next_end i (s ∷ w) = if ends s then Some i else next_end (suc i) w

-- the pair (i, j), if there is a j
abbrev pub pair_to : ℕ → Option ℕ → List (ℕ × ℕ)
pair_to i None = []
pair_to i (Some j) = (i, j) ∷ []

-- of a word whose places are numbered from i on, each place with a start,
-- paired with the least later place that has an end
abbrev pub constituents_from : ℕ → List Sym → List (ℕ × ℕ)
constituents_from i [] = []
constituents_from i (s ∷ w) =
    (if starts s then pair_to i (next_end (suc i) w) else []) ++ constituents_from (suc i) w

abbrev pub constituents : List Sym → List (ℕ × ℕ)
constituents w = constituents_from 0 w

-- whether one of the pairs starts at a place, ends there, or has it strictly between
abbrev pub starts_at : List (ℕ × ℕ) → ℕ → Bool
starts_at cs k = list_any (λ c. c.0 == k) cs

abbrev pub ends_at : List (ℕ × ℕ) → ℕ → Bool
ends_at cs k = list_any (λ c. c.1 == k) cs

abbrev pub is_inside : List (ℕ × ℕ) → ℕ → Bool
is_inside cs k = list_any (λ c. nat_lt c.0 k && nat_lt k c.1) cs

-- the symbol of a place where a pair starts, ends, or is inside
abbrev pub symbol_of : Bool → Bool → Bool → Sym
symbol_of true true inside = Both
symbol_of true false inside = Start
symbol_of false true inside = End
symbol_of false false true = Inside
symbol_of false false false = Outside

-- the symbol that the pairs draw at a place
abbrev pub drawn_symbol : List (ℕ × ℕ) → ℕ → Sym
drawn_symbol cs k = symbol_of (starts_at cs k) (ends_at cs k) (is_inside cs k)

-- the first of the pairs, if there is one, starts at the place or later
abbrev pub NextFrom : ℕ → List (ℕ × ℕ) → Type 0
NextFrom j [] = Unit {0}
NextFrom j (d ∷ ds) = j ≤ d.0

-- each pair's end is at most the next pair's start
abbrev pub AreDisjoint : List (ℕ × ℕ) → Type 0
AreDisjoint [] = Unit {0}
AreDisjoint (c ∷ cs) = NextFrom c.1 cs × AreDisjoint cs

pub record IsWellFormedWord (w : List Sym) : Type 0 where
  pub begun : (i : ℕ) → i < length w → IsTrue (starts (slice_index_or w i Outside))
      → IsTrue (starts_at (constituents w) i)
  pub apart : AreDisjoint (constituents w)
  pub symbols : (k : ℕ) → k < length w → slice_index_or w k Outside ≡ drawn_symbol (constituents w) k
