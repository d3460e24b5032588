-- What searches backward over the cells of an automaton know of them, as numbers in a list.
use Rattle.std.specs.Prelude.{◌≡◌, ◌<◌, ◌+◌, ℕ, List, [], ◌∷◌, nat_lt, if◌then◌else◌, slice_index_or}
use Rattle.tier_core.specs.declared.sym.Sym.{Sym}
use Rattle.first_paths.specs.Search.{ReachesIn, IsSearchedIn}

-- the number of a vertex from which no way to an end is known
abbrev pub no_distance : ℕ
no_distance = 4294967295

-- n columns are left at a vertex
pub record IsLeft (left : List ℕ) (v n : ℕ) : Type 0 where
  pub number : slice_index_or left v no_distance ≡ n
  pub near : n < no_distance

-- 1 for a vertex of which nothing is known, and otherwise 0
abbrev pub unknown_at : ℕ → ℕ
unknown_at n = if nat_lt n no_distance then 0 else 1

-- of how many vertices nothing is known
abbrev pub unknown_count : List ℕ → ℕ
unknown_count [] = 0
unknown_count (n ∷ left) = unknown_at n + unknown_count left

-- the chosen vertices of which nothing was known now have n columns left and are listed
abbrev pub Reaches : (ℕ → Type 0) → ℕ → List ℕ → List ℕ → List ℕ → List ℕ → Type 0
Reaches = ReachesIn IsLeft unknown_count

-- the search has found the vertices with at most k columns left, and `level` has those with k
abbrev pub IsSearched : (ℕ → List Sym → ℕ → Type 0) → (ℕ → Type 0) → ℕ → List ℕ → List ℕ → ℕ → Type 0
IsSearched = IsSearchedIn IsLeft unknown_count
