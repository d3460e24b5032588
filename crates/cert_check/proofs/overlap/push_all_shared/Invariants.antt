use Rattle.cert_check.proofs.Gathering.{GathersTwice}
use Rattle.cert_check.proofs.overlap.push_all_shared.Given as goal

abbrev pub invariant-loop-place : goal.invariant-loop-place
invariant-loop-place l = GathersTwice l.fn.shared.items l.shared.items l.arcs l.place
