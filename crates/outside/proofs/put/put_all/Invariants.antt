use Rattle.std.proofs.Common.{◌≤◌, length}
use Rattle.outside.specs.Sent.{Sends}
use Rattle.outside.proofs.put.put_all.Given as goal

-- the piece has been taken up to the rest
abbrev pub invariant-loop-rest : goal.invariant-loop-rest
invariant-loop-rest g l = record {
  sends : Sends (g.O.Sink.taken l.fn.sink) l.piece (g.O.Sink.taken l.sink) l.rest;
  later : g.O.Sink.faults l.fn.sink ≤ g.O.Sink.faults l.sink;
}

abbrev pub decreases-loop-rest : goal.decreases-loop-rest
decreases-loop-rest g l = length l.rest
