use Rattle.std.proofs.Common.{◌≡◌, ◌≤◌, map, length}
use Rattle.tier_core.specs.{Timelines.symbol, Tiers.tiers_below}
use Rattle.tier_core.proofs.projection.kept_syms.Given as goal

abbrev pub invariant-loop-tier : goal.invariant-loop-tier
invariant-loop-tier l = record {
  kept : l.syms.items ≡ map (symbol l.column) (tiers_below l.keep l.tier);
  room : l.syms.capacity ≡ 12;
  few : length l.syms.items ≤ l.tier;
}
