-- The classes of moves.
use Rattle.std.specs.Prelude.{List, map}
use Rattle.weight_law.specs.declared.Weight.{Ghosts}
use Rattle.tier_core.specs.declared.class.Class.{Class}
use Rattle.arc_table.specs.declared.arc.TableArc.{TableArc}

abbrev pub move_classes : {W : Type 0} {g : Ghosts W} → List (TableArc W g) → List Class
move_classes moves = map (λ move. move.class) moves
