-- The one value of unweighed moves satisfies the laws of weights.
use Rattle.std.proofs.Common.{arith, refl}
use Rattle.weight_law.specs.Meaning.{IsLawful}
use Rattle.weight_law.specs.UnitWeight.{unit_meaning}

pub unit_lawful : IsLawful unit_meaning
unit_lawful = record {
  lawful_zero = refl;
  lawful_sum = λ a b _ _. refl;
  size_zero = refl;
  size_sum = λ a b _ _. omega arith;
  sum_assoc = λ a b c _ _ _. refl;
  sum_comm = λ a b _ _. refl;
  sum_zero = λ a _. refl;
  below_itself = λ a _. refl;
  below_transitive = λ a b c _ _ _ p q. p;
  below_total = λ a b _ _ p q. refl;
  below_zero = λ a _. refl;
  below_sum = λ a b c _ _ _. refl;
}
