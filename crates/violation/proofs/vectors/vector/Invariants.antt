use Rattle.std.proofs.Common.{◌≡◌, take}
use Rattle.violation.specs.Candidates.{vec}
use Rattle.violation.proofs.vectors.vector.Given as goal

abbrev pub invariant-loop-constraint : goal.invariant-loop-constraint
invariant-loop-constraint l = record {
  counted : l.counts.items ≡ vec (take l.constraint-index l.constraints) l.timeline;
}
