use Rattle.std.proofs.Common.{◌∷◌, map}
use Rattle.tier_core.specs.Symbols.{byte_of}
use Rattle.outside.proofs.Writing.{PushesEach}
use Rattle.timeline_text.proofs.put.push_tail.Given as goal

abbrev pub invariant-loop-column : goal.invariant-loop-column
invariant-loop-column g l =
    PushesEach g.O.Sink l.fn.sink l.sink l.fn.out l.out (λ column. 32 ∷ map byte_of column) l.columns l.column-index
