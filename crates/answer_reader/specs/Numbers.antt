-- Numbers in decimal digits.
use Rattle.std.specs.Prelude.{ℕ, ◌+◌, ◌-◌, ◌*◌, ◌==◌, ◌&&◌, Bool, false, nat_le, nat_lt, if◌then◌else◌, List, [], ◌∷◌, length, Option, Some, None, option_map, option_and_then}
use Rattle.std.specs.List.{list_all}
use Rattle.timeline_text.specs.Bytes.{is_digit}

-- a run of one digit or more
abbrev pub is_run : List ℕ → Bool
is_run bytes = nat_lt 0 (length bytes) && list_all is_digit bytes

-- the number of a run that follows the digits of n
abbrev pub value_from : ℕ → List ℕ → ℕ
value_from n [] = n
value_from n (b ∷ bytes) = value_from (n * 10 + (b - 48)) bytes

abbrev pub has_leading_zero : List ℕ → Bool
has_leading_zero [] = false
has_leading_zero (b ∷ []) = false
has_leading_zero (b ∷ c ∷ bytes) = b == 48

-- the number of a run, unless it has a leading zero or is not below the bound
abbrev pub number_below : ℕ → List ℕ → Option ℕ
number_below bound run = if has_leading_zero run then None else
    if nat_lt (value_from 0 run) bound then Some (value_from 0 run) else None

-- the numbers of runs, if each of them has one
abbrev pub numbers_below : ℕ → List (List ℕ) → Option (List ℕ)
numbers_below bound [] = Some []
numbers_below bound (run ∷ runs) = option_and_then (λ n. option_map (λ ns. n ∷ ns) (numbers_below bound runs))
    (number_below bound run)
