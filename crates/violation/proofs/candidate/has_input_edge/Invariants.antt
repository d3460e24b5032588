use Rattle.std.proofs.Common.{◌≡◌, map, drop}
use Rattle.tier_core.specs.{Tiers.{is_input, numbers_from}, Timelines.{symbol, has_edge}}
use Rattle.violation.proofs.candidate.has_input_edge.Given as goal

abbrev pub invariant-loop-tier : goal.invariant-loop-tier
invariant-loop-tier l = record {
  rest : has_edge (map (symbol l.column) (numbers_from is_input l.tier (drop l.tier l.kinds)))
      ≡ has_edge (map (symbol l.column) (numbers_from is_input 0 l.kinds));
}
