use Rattle.std.proofs.Common.{◌≡◌, map, take, length}
use Rattle.timeline_text.specs.Causes.{symbol_of_byte}
use Rattle.timeline_text.proofs.read.column_of.Given as goal

abbrev pub invariant-loop-tier : goal.invariant-loop-tier
invariant-loop-tier l = record {
  size : length l.syms ≡ 12;
  front : take l.tier l.syms ≡ map symbol_of_byte (take l.tier l.piece);
}
