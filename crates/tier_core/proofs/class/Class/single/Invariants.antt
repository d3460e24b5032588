use Rattle.std.proofs.Common.{◌≡◌, ℕ, ◌<◌, length, get_or, map}
use Rattle.tier_core.specs.{ClassWords.{set_in, below_in}, Sets.single_set}
use Rattle.tier_core.proofs.class.Class.single.Given as goal

-- the sets so far are those of the symbols, and below them stands how many there are
abbrev pub invariant-loop-tier : goal.invariant-loop-tier
invariant-loop-tier l = record {
  done : (t : ℕ) → t < l.tier → set_in l.word t ≡ get_or (map single_set l.column) t 0;
  rest : below_in l.word (length l.column) ≡ length l.column;
}
