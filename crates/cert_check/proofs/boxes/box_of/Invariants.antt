use Rattle.std.proofs.Common.{◌≡◌, List, length, take}
use Rattle.std.specs.List.{list_all}
use Rattle.tier_core.specs.{declared.sym.Sym.Sym, Classes.{sets_of, has}, Timelines.symbol}
use Rattle.cert_check.specs.Boxes.{is_so}
use Rattle.cert_check.proofs.boxes.box_of.Given as goal

abbrev pub invariant-loop-event : goal.invariant-loop-event
invariant-loop-event l = record {
  width : length (sets_of l.class) ≡ l.width;
  columns : (column : List Sym) → length column ≡ l.width
      → has l.class column ≡ list_all (λ e. is_so l.asked e.part (symbol column e.tier)) (take l.event-index l.types);
}
