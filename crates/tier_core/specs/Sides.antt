-- The two sides of a constraint: which of its types of events are edges.
use Rattle.std.specs.Prelude.{Bool, true, false, not, ◌&&◌, List}
use Rattle.std.specs.List.{list_any}
use Rattle.tier_core.specs.declared.sym.Sym.{Sym}
use Rattle.tier_core.specs.declared.event.Event.{Event}
use Rattle.tier_core.specs.declared.event.Part.{Part}
use Rattle.tier_core.specs.declared.event.Part.TheVariants.{Start as StartOf, End as EndOf, Interior}
use Rattle.tier_core.specs.declared.constraint.Constraint.{Constraint}
use Rattle.tier_core.specs.declared.constraint.Family.{Family}
use Rattle.tier_core.specs.declared.constraint.Family.TheVariants.{Implication, Clash}
use Rattle.tier_core.specs.Timelines.{symbol, is_edge}

abbrev pub is_edge_part : Part → Bool
is_edge_part StartOf = true
is_edge_part EndOf = true
is_edge_part Interior = false

-- whether one of the types is an edge
abbrev pub has_edge_type : List Event → Bool
has_edge_type types = list_any (λ e. is_edge_part e.part) types

-- whether a column has an edge on the tier of one of the types
abbrev pub edge_among : List Event → List Sym → Bool
edge_among types column = list_any (λ e. is_edge (symbol column e.tier)) types

abbrev pub is_implication : Family → Bool
is_implication Implication = true
is_implication Clash = false

-- A stretch implication is an implication whose left side has only interiors (this project).
abbrev pub is_stretch : Constraint → Bool
is_stretch c = is_implication c.family && not (has_edge_type c.left)
