use Rattle.std.proofs.Common.{◌≡◌, ◌↔◌, ◌≤◌, map, drop, length}
use Rattle.tier_core.specs.{Tiers.{is_input, numbers_from}, Timelines.symbol}
use Rattle.violation.proofs.candidate.has_input_part.Given as goal

abbrev pub invariant-loop-tier : goal.invariant-loop-tier
invariant-loop-tier l = record {
  within : l.next ≤ length l.form;
  rest : (map (symbol l.column) (numbers_from is_input l.tier (drop l.tier l.kinds)) ≡ drop l.next l.form) ↔
      (map (symbol l.column) (numbers_from is_input 0 l.kinds) ≡ l.form);
}
