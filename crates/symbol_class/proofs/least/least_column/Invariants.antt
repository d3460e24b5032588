use Rattle.std.proofs.Common.{◌≡◌, length, take, map}
use Rattle.tier_core.specs.{Classes.sets_of, FirstColumn.first_sym}
use Rattle.symbol_class.proofs.least.least_column.Given as goal

abbrev pub invariant-loop-tier : goal.invariant-loop-tier
invariant-loop-tier l = record {
  twelve : length l.syms ≡ 12;
  done : take l.tier l.syms ≡ map first_sym (take l.tier (sets_of l.class));
}
