-- Numbers of violations satisfy the laws of weights.
use Rattle.std.proofs.Common.{ap, arith, refl}
use Rattle.std.proofs.lemmas.Bool.Decides.{nat_tests}
use Rattle.weight_law.specs.Meaning.{IsLawful}
use Rattle.weight_law.specs.Count.{count_of, count_meaning}

pub count_lawful : IsLawful count_meaning
count_lawful = record {
  lawful_zero = refl;
  lawful_sum = λ a b _ _. refl;
  size_zero = refl;
  size_sum = λ a b _ _. omega arith;
  sum_assoc = λ a b c _ _ _. ap count_of (omega arith);
  sum_comm = λ a b _ _. ap count_of (omega arith);
  sum_zero = λ a _. ap count_of (omega arith);
  below_itself = λ a _. grind (arith, nat_tests);
  below_transitive = λ a b c _ _ _ p q. grind (arith, nat_tests);
  below_total = λ a b _ _ p q. ap count_of (grind (arith, nat_tests));
  below_zero = λ a _. grind (arith, nat_tests);
  below_sum = λ a b c _ _ _. grind (arith, nat_tests);
}
