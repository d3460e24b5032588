use Rattle.std.proofs.Common.{◌≡◌, ◌+◌, ◌≤◌, Some, slice_get}
use Rattle.answer_text.specs.declared.automaton.ArcLine.{ArcLine}
use Rattle.cert_check.specs.Gathered.{AddsColumns}
use Rattle.cert_check.proofs.Gathering.{is_shared_to}
use Rattle.cert_check.proofs.overlap.push_shared.Given as goal

abbrev pub invariant-loop-later : goal.invariant-loop-later
invariant-loop-later l = record {
  from : l.place + 1 ≤ l.later;
  adds : (arc : ArcLine) → slice_get l.arcs l.place ≡ Some arc
      → AddsColumns l.fn.shared.items l.shared.items (is_shared_to l.arcs l.place l.later arc.class);
}
