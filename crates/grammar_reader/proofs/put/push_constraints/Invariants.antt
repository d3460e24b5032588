use Rattle.std.proofs.Common.{map, drop}
use Rattle.std.specs.String.{string_bytes}
use Rattle.outside.proofs.Writing.{PushesUpTo}
use Rattle.grammar_reader.specs.{Canonical.constraint_lines, Seen.constraint_seen}
use Rattle.grammar_reader.proofs.put.push_constraints.Given as goal

abbrev pub invariant-loop-constraint : goal.invariant-loop-constraint
invariant-loop-constraint g l =
    PushesUpTo g.O.Sink l.fn.sink l.sink l.fn.out l.out
    (constraint_lines (map string_bytes l.names) (map constraint_seen l.constraints))
    (constraint_lines (map string_bytes l.names) (map constraint_seen (drop l.constraint-index l.constraints)))
