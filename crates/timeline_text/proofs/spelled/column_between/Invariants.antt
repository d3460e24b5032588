use Rattle.std.proofs.Common.{◌≡◌, take, length}
use Rattle.timeline_text.specs.Between.{column_between}
use Rattle.timeline_text.proofs.spelled.column_between.Given as goal

abbrev pub invariant-loop-tier : goal.invariant-loop-tier
invariant-loop-tier l = record {
  size : length l.syms ≡ 6;
  front : take l.tier l.syms ≡ column_between l.tier l.before l.after;
}
