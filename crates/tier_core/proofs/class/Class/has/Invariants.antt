use Rattle.std.proofs.Common.{◌≡◌, drop}
use Rattle.tier_core.specs.Classes.{has, sets_of, sets_have}
use Rattle.tier_core.proofs.class.Class.has.Given as goal

-- what is left decides
abbrev pub invariant-loop-tier : goal.invariant-loop-tier
invariant-loop-tier l = sets_have (drop l.tier (sets_of l.self)) (drop l.tier l.column) ≡ has l.self l.column
