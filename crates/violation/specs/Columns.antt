-- What one column says about types of events.
use Rattle.std.specs.Prelude.{Bool, not, ◌&&◌, List, ◌++◌}
use Rattle.std.specs.List.{list_all, list_any}
use Rattle.tier_core.specs.declared.sym.Sym.{Sym}
use Rattle.tier_core.specs.declared.event.Event.{Event}
use Rattle.tier_core.specs.declared.event.Part.{Part}
use Rattle.tier_core.specs.declared.event.Part.TheVariants.{Start as StartOf, End as EndOf, Interior}
use Rattle.tier_core.specs.declared.constraint.Family.{Family}
use Rattle.tier_core.specs.declared.constraint.Family.TheVariants.{Implication, Clash}
use Rattle.tier_core.specs.Words.{is_inside_sym, starts, ends}
use Rattle.tier_core.specs.Scan.{opens}
use Rattle.tier_core.specs.Timelines.{symbol}
use Rattle.tier_core.specs.Sides.{is_edge_part}

-- a start is present at `[` and `|`, an end at `]` and `|`, an interior at `+`
abbrev pub part_present : Part → Sym → Bool
part_present StartOf s = starts s
part_present EndOf s = ends s
part_present Interior s = is_inside_sym s

-- whether an event of a type is present at a column
abbrev pub is_present : List Sym → Event → Bool
is_present column e = part_present e.part (symbol column e.tier)

-- whether the type is an interior whose tier is open after a column
abbrev pub opens_interior : List Sym → Event → Bool
opens_interior column e = not (is_edge_part e.part) && opens (symbol column e.tier)

-- whether the tiers of all types are open after a column
abbrev pub opens_all : List Event → List Sym → Bool
opens_all types column = list_all (λ e. opens (symbol column e.tier)) types

-- what a constraint with an edge among the chosen types counts at a column
abbrev pub edge_cost : Family → List Event → List Event → List Sym → Bool
edge_cost Clash left right column = list_all (is_present column) (left ++ right)
edge_cost Implication left right column = list_all (is_present column) left && not (list_any (is_present column) right)
