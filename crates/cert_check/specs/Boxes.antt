-- What is asked of a symbol on the tier of a type of events.
use Rattle.std.specs.Prelude.{Bool, not, ◌&&◌}
use Rattle.tier_core.specs.declared.sym.Sym.{Sym}
use Rattle.tier_core.specs.declared.event.Part.{Part}
use Rattle.tier_core.specs.Scan.{opens}
use Rattle.tier_core.specs.Sides.{is_edge_part}
use Rattle.tier_core.specs.Timelines.{is_edge}
use Rattle.violation.specs.Columns.{part_present}
use Rattle.cert_check.specs.declared.boxes.Asked.{Asked}
use Rattle.cert_check.specs.declared.boxes.Asked.TheVariants.{Present, Absent, Open, NotInside, NoEdge}

abbrev pub is_so : Asked → Part → Sym → Bool
is_so Present part sym = part_present part sym
is_so Absent part sym = not (part_present part sym)
is_so Open part sym = opens sym
is_so NotInside part sym = not (not (is_edge_part part) && opens sym)
is_so NoEdge part sym = not (is_edge sym)
