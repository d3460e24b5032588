use Rattle.std.proofs.Common.{◌≤◌, None, length, take}
use Rattle.comprehend.specs.Choices.{IsBetter, LeadsByOne}
use Rattle.comprehend.proofs.choose.best_of.Given as goal

abbrev pub invariant-loop-arc : goal.invariant-loop-arc
invariant-loop-arc l = record {
  inside : l.arc-index ≤ length l.arcs;
  best : IsBetter (LeadsByOne l.numbers.keys l.tests l.place l.left l.n (take l.arc-index l.arcs)) None l.best;
}
