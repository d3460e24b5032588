use Rattle.std.proofs.Common.{take}
use Rattle.symbol_class.specs.Held.{times_held}
use Rattle.violation.specs.Prefixes.{kind_of_bits}
use Rattle.cert_check.specs.{Kept.AddsPieces, Subjects.problem_of}
use Rattle.cert_check.proofs.kept.push_each.Given as goal

abbrev pub invariant-loop-class : goal.invariant-loop-class
invariant-loop-class l = AddsPieces (problem_of l.subject) l.subject.answer.now.stages.items l.stage
    (kind_of_bits (problem_of l.subject) l.stage l.source.kind) l.fn.kept.items l.kept.items
    (times_held (take l.class-index l.pieces))
