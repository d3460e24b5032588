use Rattle.std.proofs.Common.{◌≡◌, ◌≤◌, List, length}
use Rattle.tier_core.specs.{declared.sym.Sym.Sym, Classes.{sets_of, has}}
use Rattle.violation.proofs.{CandidateLemmas.part_from, InputParts.ReadsOn}
use Rattle.cert_check.specs.Opens.{inputs_before}
use Rattle.cert_check.proofs.fit_boxes.reading_box.Given as goal

abbrev pub invariant-loop-tier : goal.invariant-loop-tier
invariant-loop-tier l = record {
  width : length (sets_of l.class) ≡ length l.kinds;
  count : l.next ≡ inputs_before l.kinds l.tier;
  few : l.next ≤ l.tier;
  columns : (column : List Sym) → length column ≡ length l.kinds
      → ReadsOn (has l.class column) (part_from l.kinds column 0 ≡ l.form) l.kinds column l.form l.tier
      l.next;
}
