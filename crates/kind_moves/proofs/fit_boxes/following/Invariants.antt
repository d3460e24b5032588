use Rattle.std.proofs.Common.{◌≡◌, ℕ, ◌<◌, ◌↔◌, true, IsTrue, List, length}
use Rattle.tier_core.specs.{declared.sym.Sym.Sym, Classes.{sets_of, has}, Scan.fits, Tiers.has_tier, Timelines.symbol}
use Rattle.kind_moves.proofs.fit_boxes.following.Given as goal

abbrev pub invariant-loop-tier : goal.invariant-loop-tier
invariant-loop-tier l = record {
  width : length (sets_of l.rest) ≡ length (sets_of l.class);
  columns : (column : List Sym) → IsTrue (has l.rest column)
      ↔ (IsTrue (has l.class column) × ((t : ℕ) → t < l.tier → fits (has_tier l.opened t) (symbol column t) ≡ true));
}
