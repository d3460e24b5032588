use Rattle.std.proofs.Common.{◌≤◌, take, length}
use Rattle.cert_check.specs.{Arcs.is_unmatched, Gathered.AddsColumns}
use Rattle.cert_check.proofs.differing.push_unmatched.Given as goal

abbrev pub invariant-loop-arc : goal.invariant-loop-arc
invariant-loop-arc l = record {
  within : l.arc-index ≤ length l.arcs;
  adds : AddsColumns l.fn.pieces.items l.pieces.items (is_unmatched (take l.arc-index l.arcs) l.others);
}
