use Rattle.std.proofs.Common.{◌≡◌, ℕ, ◌-◌, ◌<◌, ◌≤◌, length, get_or}
use Rattle.std.specs.declared.cmp.Ordering.TheVariants.{Less, Greater}
use Rattle.tier_core.specs.{Kinds.kind_order, KindShapes.kind_in}
use Rattle.cert_check.specs.Searches.{told_in}
use Rattle.cert_check.proofs.find.find.Given as goal

abbrev pub decreases-loop-low : goal.decreases-loop-low
decreases-loop-low l = l.high - l.low

-- what is before `low` comes before the key, and what is from `high` on behind it
abbrev pub invariant-loop-low : goal.invariant-loop-low
invariant-loop-low l = record {
  low : l.low ≤ l.high;
  high : l.high ≤ length l.nodes;
  below : (i : ℕ) → i < l.low → kind_order
      (get_or (told_in l.shape l.stage l.nodes) i (kind_in l.shape l.stage l.key)) (kind_in l.shape l.stage l.key)
      ≡ Less;
  above : (i : ℕ) → l.high ≤ i → i < length l.nodes
      → kind_order (get_or (told_in l.shape l.stage l.nodes) i (kind_in l.shape l.stage l.key))
      (kind_in l.shape l.stage l.key) ≡ Greater;
}
