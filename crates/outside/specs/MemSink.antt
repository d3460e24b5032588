-- A sink in memory: what it has taken, and which of its writes fail.
use Rattle.std.specs.Prelude.{ℕ, List, Result, Ok, Err}
use Rattle.outside.specs.Faults.{next_fault_count}
use Rattle.outside.specs.declared.sink.WriteErr.{WriteErr}
use Rattle.outside.specs.declared.sink.WriteErr.TheVariants.{Failed, NoMemory}

pub record Taking : Type 0 where
  -- the bytes that it has taken so far
  pub bytes : List ℕ
  -- how many bytes of a piece it takes at most
  pub most : ℕ
  -- the numbers of the writes that fail; the first write has number 1
  pub failing : List ℕ
  -- how many writes there have been
  pub writes : ℕ
  -- how many of them have failed
  pub faults : ℕ

-- the count of faults after a write with this answer
abbrev pub faults_after : Result ℕ WriteErr → ℕ → ℕ
faults_after (Err Failed) n = next_fault_count n
faults_after (Err NoMemory) n = n
faults_after (Ok taken) n = n
