use Rattle.std.proofs.Common.{◌≡◌, ◌++◌, map, take}
use Rattle.kind_moves.specs.Leaving.{led_to}
use Rattle.kind_moves.proofs.all_moves.push_led.Given as goal

abbrev pub invariant-loop-class : goal.invariant-loop-class
invariant-loop-class l = l.pieces.items ≡ l.initial.pieces.items ++ map (led_to l.target) (take l.class-index l.classes)
