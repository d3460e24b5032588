-- How many kinds there are when no constraint is ranked.
use Rattle.std.specs.Prelude.{ℕ, ◌+◌, ◌*◌, ◌^◌, length}
use Rattle.violation.specs.Problems.{last_place, Problem}

-- a place of the form with a set of open free tiers
abbrev pub kind_count : Problem → ℕ
kind_count problem = (last_place problem + 1) * 2 ^ length problem.tiers.free
