-- The weight of unweighed moves: one value, which is below nothing.
use Rattle.std.specs.Prelude.{true, false}
use Rattle.weight_law.specs.Meaning.{Meaning}
use Rattle.weight_law.specs.declared.unit_weight.UnitWeight.{UnitWeight}

abbrev pub unit_meaning : Meaning UnitWeight
unit_meaning = record {
  zero = record {};
  size = λ a. 0;
  lawful = λ a. true;
  sum = λ a b. a;
  below = λ a b. false;
}
