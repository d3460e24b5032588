-- The classes of arcs.
use Rattle.std.specs.Prelude.{List, map}
use Rattle.tier_core.specs.declared.class.Class.{Class}
use Rattle.answer_text.specs.declared.automaton.ArcLine.{ArcLine}

abbrev pub arc_classes : List ArcLine → List Class
arc_classes arcs = map (λ arc. arc.class) arcs
