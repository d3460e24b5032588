use Rattle.std.proofs.Common.{◌≡◌, take}
use Rattle.cert_check.proofs.head.compare_counts.Given as goal

abbrev pub invariant-loop-place : goal.invariant-loop-place
invariant-loop-place l = take l.place l.listed ≡ take l.place l.counted
