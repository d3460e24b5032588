use Rattle.tier_core.specs.{Scan.opens, Timelines.symbol}
use Rattle.cert_check.proofs.FlagSteps.{AreFlagged}
use Rattle.cert_check.proofs.moves.opened_after.Given as goal

abbrev pub invariant-loop-tier : goal.invariant-loop-tier
invariant-loop-tier l = AreFlagged (λ t. opens (symbol l.column t)) l.kinds l.tier l.free l.opened
