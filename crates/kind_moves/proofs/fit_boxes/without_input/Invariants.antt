use Rattle.std.proofs.Common.{◌≡◌, not, ◌&&◌, List, length, map, drop}
use Rattle.tier_core.specs.{declared.sym.Sym.Sym, Classes.{sets_of, has}, Tiers.{is_input, numbers_from}}
use Rattle.tier_core.specs.Timelines.{symbol, has_edge}
use Rattle.kind_moves.proofs.fit_boxes.without_input.Given as goal

abbrev pub invariant-loop-tier : goal.invariant-loop-tier
invariant-loop-tier l = record {
  width : length (sets_of l.rest) ≡ length (sets_of l.class);
  columns : (column : List Sym)
      → (has l.rest column && not (has_edge (map (symbol column)
      (numbers_from is_input l.tier (drop l.tier l.kinds)))))
      ≡ (has l.class column && not (has_edge (map (symbol column) (numbers_from is_input 0 l.kinds))));
}
