use Rattle.std.proofs.Common.{◌+◌, ◌-◌, length}
use Rattle.std.specs.Io.KnownBytes.{Consumes}
use Rattle.outside.proofs.file_shelf.read_whole.Given as goal

-- the bytes so far were taken from the front of the file
abbrev pub invariant-loop-turn : goal.invariant-loop-turn
invariant-loop-turn g l = record {
  consumed : Consumes (g.F.Read.remaining l.fn.file) (g.F.Read.remaining l.file) l.bytes.items;
}

-- each turn takes at least one byte
abbrev pub decreases-loop-turn : goal.decreases-loop-turn
decreases-loop-turn g l = l.limit + 1 - length l.bytes.items
