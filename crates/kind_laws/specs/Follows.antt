-- What follows a prefix, and what it adds to the counts.
use Rattle.std.specs.Prelude.{ℕ, ◌+◌, ◌≡◌, List, ◌++◌, length}
use Rattle.tier_core.specs.declared.sym.Sym.{Sym}
use Rattle.violation.specs.Candidates.{count_at, count_so_far_at}
use Rattle.violation.specs.Problems.{Problem}

-- the columns q after the prefix p add m to what stage r counts
abbrev pub Adds : Problem → ℕ → List (List Sym) → List (List Sym) → ℕ → Type 0
Adds problem r p q m =
    count_at problem r (p ++ q) ≡ count_so_far_at problem r (p ++ q) (length p) + m
