use Rattle.std.proofs.Common.{◌≡◌, ℕ, ◌<◌, ◌↔◌, true, IsTrue, List, length}
use Rattle.tier_core.specs.{declared.sym.Sym.Sym, Classes.{sets_of, has}, Scan.fits, Tiers.has_tier, Timelines.symbol}
use Rattle.cert_check.proofs.fit_boxes.coming_box.Given as goal

abbrev pub invariant-loop-tier : goal.invariant-loop-tier
invariant-loop-tier l = record {
  width : length (sets_of l.class) ≡ l.width;
  columns : (column : List Sym) → length column ≡ l.width
      → IsTrue (has l.class column) ↔ ((t : ℕ) → t < l.tier → fits (has_tier l.mask t) (symbol column t) ≡ true);
}
