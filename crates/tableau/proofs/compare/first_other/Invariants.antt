use Rattle.std.proofs.Common.{◌≡◌, take}
use Rattle.tableau.proofs.compare.first_other.Given as goal

-- the counts so far are the least
abbrev pub invariant-loop-number : goal.invariant-loop-number
invariant-loop-number l = take l.number l.counts ≡ take l.number l.least
