use Rattle.kind_moves.specs.Leaving.{AddsLeaving}
use Rattle.kind_moves.proofs.LeavingPieces.{times_left}
use Rattle.kind_moves.proofs.frame.Frame.push_leaving.Given as goal

abbrev pub invariant-loop-opened : goal.invariant-loop-opened
invariant-loop-opened l = AddsLeaving l.self l.place l.initial.pieces.items l.pieces.items
    (times_left l.self l.a l.b l.place l.initial.pieces.items l.opened)
