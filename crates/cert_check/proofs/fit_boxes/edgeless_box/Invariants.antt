use Rattle.std.proofs.Common.{◌≡◌, ℕ, ◌<◌, ◌↔◌, true, not, IsTrue, List, length}
use Rattle.tier_core.specs.{declared.sym.Sym.Sym, Classes.{sets_of, has}, Timelines.{symbol, is_edge}}
use Rattle.cert_check.proofs.fit_boxes.edgeless_box.Given as goal

abbrev pub invariant-loop-tier : goal.invariant-loop-tier
invariant-loop-tier l = record {
  width : length (sets_of l.class) ≡ l.width;
  columns : (column : List Sym) → length column ≡ l.width
      → IsTrue (has l.class column) ↔ ((t : ℕ) → t < l.tier → not (is_edge (symbol column t)) ≡ true);
}
