use Rattle.std.proofs.Common.{◌≡◌, ℕ, ◌<◌, ◌≤◌, false, get_or, length}
use Rattle.tier_core.specs.Classes.{has}
use Rattle.answer_text.specs.declared.automaton.ArcLine.{ArcLine}
use Rattle.cert_check.proofs.target.target_on.Given as goal

abbrev pub invariant-loop-arc : goal.invariant-loop-arc
invariant-loop-arc l = record {
  within : l.arc-index ≤ length l.arcs;
  none : (i : ℕ) (arc : ArcLine) → i < l.arc-index → has (get_or l.arcs i arc).class l.column ≡ false;
}
