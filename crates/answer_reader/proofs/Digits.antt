-- Numbers of runs of digits.
use Rattle.std.proofs.Common.{◌≡◌, ℕ, suc, ◌+◌, ◌-◌, ◌*◌, ◌<◌, ◌≤◌, cond, nat_lt, false, List, [], ◌∷◌, length}
use Rattle.std.proofs.Common.{get_or, drop, Some, None, ap, sym, ◌∙◌, arith, drop-cons}
use Rattle.std.proofs.lemmas.Bool.Decides.{nat_tests}
use Rattle.answer_reader.specs.Numbers.{value_from, has_leading_zero, number_below}

value_from_least : (n : ℕ) (bytes : List ℕ) → n ≤ value_from n bytes
value_from_least n [] = omega arith
value_from_least n (b ∷ bytes) = let more = value_from_least (n * 10 + (b - 48)) bytes in omega arith

-- one digit more
value_step : (n k : ℕ) (bytes : List ℕ) → k < length bytes → value_from n (drop k bytes)
    ≡ value_from (n * 10 + (get_or bytes k 0 - 48)) (drop (suc k) bytes)
value_step n k bytes l = ap (value_from n) (drop-cons bytes k 0 l)

not_below : (bound v : ℕ) → bound ≤ v → cond (nat_lt v bound) (Some v) None ≡ None
not_below bound v l = grind (arith, nat_tests)

-- a number that is not below the bound before its end
pub number_above : (bound n k : ℕ) (run : List ℕ) → k < length run → has_leading_zero run ≡ false
    → value_from n (drop k run) ≡ value_from 0 run
    → bound ≤ n * 10 + (get_or run k 0 - 48) → None ≡ number_below bound run
number_above bound n k run l z rest above =
    let least = value_from_least (n * 10 + (get_or run k 0 - 48)) (drop (suc k) run) in
    let step = value_step n k run l in
    sym (ap (λ t. cond t None (cond (nat_lt (value_from 0 run) bound) (Some (value_from 0 run)) None)) z
    ∙ not_below bound (value_from 0 run) (omega arith))
