use Rattle.kind_orders.proofs.Places.{ArePlaced}
use Rattle.kind_orders.proofs.inverse.ranks.Given as goal

abbrev pub invariant-loop-place : goal.invariant-loop-place
invariant-loop-place l = ArePlaced l.order l.place l.ranks.items
