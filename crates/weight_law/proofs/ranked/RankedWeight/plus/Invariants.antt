use Rattle.std.proofs.Common.{◌≡◌, ◌+◌, ◌<◌, ℕ, get_or, length}
use Rattle.weight_law.proofs.ranked.RankedWeight.plus.Given as goal

abbrev pub invariant-loop-i : goal.invariant-loop-i
invariant-loop-i l = record {
  own : length l.parts ≡ 24;
  mine : length l.self.parts ≡ 24;
  others : length l.other.parts ≡ 24;
  sums : (k : ℕ) → k < l.i → get_or l.parts k 0 ≡ get_or l.self.parts k 0 + get_or l.other.parts k 0;
}
