use Rattle.std.proofs.Common.{◌≡◌, ◌≤◌, ◌↔◌, IsTrue, List, length, map, drop}
use Rattle.tier_core.specs.{declared.sym.Sym.Sym, Classes.{sets_of, has}, Tiers.{is_input, numbers_from}}
use Rattle.tier_core.specs.Timelines.{symbol}
use Rattle.kind_moves.proofs.fit_boxes.with_input.Given as goal

abbrev pub invariant-loop-tier : goal.invariant-loop-tier
invariant-loop-tier l = record {
  width : length (sets_of l.rest) ≡ length (sets_of l.class);
  within : l.next ≤ length l.form;
  columns : (column : List Sym)
      → (IsTrue (has l.rest column) × (map (symbol column) (numbers_from is_input l.tier (drop l.tier l.kinds))
      ≡ drop l.next l.form))
      ↔ (IsTrue (has l.class column) × (map (symbol column) (numbers_from is_input 0 l.kinds) ≡ l.form));
}
