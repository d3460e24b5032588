-- The members of a range of numbers.
use Rattle.std.proofs.Common.{◌≡◌, ℕ, ◌+◌, ◌-◌, ◌<◌, ◌≤◌, sym, ◌∙◌, arith, Contains}
use Rattle.std.proofs.lemmas.List.FromFn.{length-range_with_len, get_or-range_with_len}
use Rattle.std.specs.List.{range_with_len}

pub in_range : (m n y : ℕ) → Contains (range_with_len m n) y → (m ≤ y) × (y < m + n)
in_range m n y h =
    let place : h.0 < n = omega (arith, h.1, length-range_with_len m n) in
    let value : y ≡ m + h.0 = sym h.2 ∙ get_or-range_with_len m n h.0 y place in
    (omega arith, omega arith)

pub range_has : (m n y : ℕ) → m ≤ y → y < m + n → Contains (range_with_len m n) y
range_has m n y l h =
    let place : y - m < n = omega arith in
    let value : m + (y - m) ≡ y = omega arith in
    (y - m, omega (arith, length-range_with_len m n), get_or-range_with_len m n (y - m) y place ∙ value)
