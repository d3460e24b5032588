use Rattle.std.proofs.Common.{◌≡◌, ◌<◌, ◌≤◌, drop}
use Rattle.answer_reader.specs.Numbers.{value_from}
use Rattle.answer_reader.proofs.number.number_below.Given as goal

-- the number so far goes on with the digits that are left
abbrev pub invariant-loop-digit : goal.invariant-loop-digit
invariant-loop-digit l = record {
  small : l.number ≤ l.bound;
  below : 0 < l.digit-index → l.number < l.bound;
  rest : value_from l.number (drop l.digit-index l.run) ≡ value_from 0 l.run;
}
