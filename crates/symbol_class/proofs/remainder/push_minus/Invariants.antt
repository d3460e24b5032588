use Rattle.symbol_class.proofs.MinusSteps.{IsMinusBelow}
use Rattle.symbol_class.proofs.remainder.push_minus.Given as goal

abbrev pub invariant-loop-tier : goal.invariant-loop-tier
invariant-loop-tier l = IsMinusBelow l.fn.pieces.items l.a l.b l.tier l.pieces.items l.rest
