use Rattle.std.proofs.Common.{◌≡◌, ℕ, ◌≤◌, take, length, List, All}
use Rattle.tier_core.specs.{declared.sym.Sym.Sym, Classes.sets_of}
use Rattle.symbol_class.specs.Held.{some_has}
use Rattle.cert_check.specs.Arcs.{is_led}
use Rattle.cert_check.proofs.differing.classes_to.Given as goal

abbrev pub invariant-loop-arc : goal.invariant-loop-arc
invariant-loop-arc l = record {
  within : l.arc-index ≤ length l.arcs;
  columns : (column : List Sym) → some_has l.classes.items column ≡ is_led (take l.arc-index l.arcs) l.target column;
  width : (width : ℕ) → All (λ arc. length (sets_of arc.class) ≡ width) l.arcs
      → All (λ class. length (sets_of class) ≡ width) l.classes.items;
}
