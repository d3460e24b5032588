use Rattle.std.proofs.Common.{◌≡◌, drop}
use Rattle.std.specs.Cmp.Lexicographic.{slice_cmp}
use Rattle.tier_core.specs.Orders.{column_cmp}
use Rattle.tier_core.proofs.order.in_turn.Given as goal

-- what is left decides
abbrev pub invariant-loop-place : goal.invariant-loop-place
invariant-loop-place l = slice_cmp column_cmp (drop l.place l.a) (drop l.place l.b) ≡ slice_cmp column_cmp l.a l.b
