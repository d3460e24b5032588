-- Cells by their numbers.
use Rattle.std.proofs.{Common.{◌≡◌, ℕ, ◌+◌, ◌*◌, ◌/◌, ◌%◌, ◌<◌, ◌≤◌, ap, arith, inl, inr}, Math.Nat.mul-le-mul_right}
use Rattle.std.proofs.lemmas.Bool.{cases_order}

-- the cells of a state of n are within those of all
pub cells_inside : (i n width : ℕ) → i < n → i * width + width ≤ n * width
cells_inside i n width l =
    let step : (i + 1) * width ≤ n * width = mul-le-mul_right width (omega arith) in
    omega (arith, step, one_more i width)
  where
    one_more : (i width : ℕ) → (i + 1) * width ≡ i * width + width
    one_more i width = grind arith

-- a number is that of one cell
pub one_cell : (i p j q width : ℕ) → p < width → q < width → i * width + p ≡ j * width + q → (i ≡ j) × (p ≡ q)
one_cell i p j q width lp lq e = elim (cases_order i j) [
  | inl same ↦ (same, omega (arith, ap (λ x. x * width) same))
  | inr other ↦ elim other [
    | inl less ↦ absurd (omega (arith, cells_inside i j width less))
    | inr more ↦ absurd (omega (arith, cells_inside j i width more))
  ]
]

-- a state with a cell within those of n states is one of them
pub state_inside : (i p n width : ℕ) → i * width + p < n * width → i < n
state_inside i p n width l = elim (cases_order i n) [
  | inl same ↦ absurd (omega (arith, ap (λ x. x * width) same))
  | inr other ↦ elim other [
    | inl less ↦ less
    | inr more ↦ absurd (omega (arith, cells_inside n i width more))
  ]
]

-- the cell of a number
pub cell_of : (v width : ℕ) → 0 < width → v ≡ v / width * width + v % width
cell_of v width some = omega arith

pub place_below : (v width : ℕ) → 0 < width → v % width < width
place_below v width some = omega arith

-- the state of a cell of n states is one of them
pub state_of : (v n width : ℕ) → 0 < width → v < n * width → v / width < n
state_of v n width some l = state_inside (v / width) (v % width) n width (omega (arith, cell_of v width some, l))
