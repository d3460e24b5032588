use Rattle.std.proofs.Common.{◌≡◌, ℕ, ◌<◌, ◌≤◌, false, true, get_or}
use Rattle.tier_core.specs.{declared.sym.Sym.TheVariants.Outside, Scan.{fits, opens}}
use Rattle.tier_core.proofs.form.advance.Given as goal

-- each symbol so far fits, and its tier is open or not after it
abbrev pub invariant-loop-tier : goal.invariant-loop-tier
invariant-loop-tier l = record {
  fit : (t : ℕ) → t < l.tier → fits (get_or l.fn.held t false) (get_or l.column t Outside) ≡ true;
  opened : (t : ℕ) → t < l.tier → get_or l.held t false ≡ opens (get_or l.column t Outside);
  same : (t : ℕ) → l.tier ≤ t → get_or l.held t false ≡ get_or l.fn.held t false;
}
