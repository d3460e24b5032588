use Rattle.std.proofs.Common.{◌≤◌, take, length}
use Rattle.cert_check.proofs.LeastColumns.{IsLeastOf}
use Rattle.cert_check.proofs.least.least_of.Given as goal

abbrev pub invariant-loop-class : goal.invariant-loop-class
invariant-loop-class l = record {
  within : l.class-index ≤ length l.classes;
  least : IsLeastOf (take l.class-index l.classes) l.least;
}
