-- The budget that is always enough.
use Rattle.std.specs.Prelude.{ℕ, ◌+◌, ◌*◌, ◌^◌, length}
use Rattle.violation.specs.Prefixes.{stretches}
use Rattle.violation.specs.Problems.{Problem, last_stage, last_place}

-- (columns of the form + 1) * 2^(free tiers) * 2^(stretch implications)
abbrev pub enough : Problem → ℕ
enough problem =
    (last_place problem + 1) * 2 ^ length problem.tiers.free
    * 2 ^ length (stretches problem (last_stage problem))
