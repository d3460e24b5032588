-- Counts of faults, which back the answers that report a fault.
use Rattle.std.specs.Prelude.{ℕ, ◌+◌, ◌-◌, ◌^◌, ◌≤◌, min}

-- one more, in a count that is a u64 and stays at its last value once it has reached it
abbrev pub next_fault_count : ℕ → ℕ
next_fault_count n = min (n + 1) (2 ^ 64 - 1)

-- A count has risen in a call if it is greater after the call than before, or is at its last value.
abbrev pub Rose : ℕ → ℕ → Type 0
Rose before now = next_fault_count before ≤ now
