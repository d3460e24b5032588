use Rattle.std.proofs.Common.{◌≡◌, length, All}
use Rattle.tier_core.specs.Classes.{sets_of}
use Rattle.kind_orders.proofs.tests.cells.Given as goal

abbrev pub invariant-loop-code : goal.invariant-loop-code
invariant-loop-code l = All (λ class. length (sets_of class) ≡ 2) l.cells.items
