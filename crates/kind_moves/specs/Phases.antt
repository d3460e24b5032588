-- Phases of stretch implications, as the code has them.
use Rattle.tier_core.specs.Kinds.{Phase, closed, unmet, met}
use Rattle.kind_moves.specs.declared.phase.Phase as code
use Rattle.kind_moves.specs.declared.phase.Phase.TheVariants.{Closed, Unmet, Met}

-- the phase that a value of the code stands for
abbrev pub phase_of : code.Phase → Phase
phase_of Closed = closed
phase_of Unmet = unmet
phase_of Met = met
