-- Numbers of violations as weights: added and compared as numbers.
use Rattle.std.specs.Prelude.{ℕ, ◌+◌, true, nat_lt}
use Rattle.weight_law.specs.Meaning.{Meaning}
use Rattle.weight_law.specs.declared.count.Count.{Count}

abbrev pub count_of : ℕ → Count
count_of n = record { 0 = n }

abbrev pub count_meaning : Meaning Count
count_meaning = record {
  zero = count_of 0;
  size = λ a. a.0;
  lawful = λ a. true;
  sum = λ a b. count_of (a.0 + b.0);
  below = λ a b. nat_lt a.0 b.0;
}
