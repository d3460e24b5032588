use Rattle.std.proofs.Common.{[], take}
use Rattle.symbol_class.specs.Held.{times_held}
use Rattle.violation.specs.Prefixes.{kind_of_bits}
use Rattle.answer_text.specs.ArcClasses.{arc_classes}
use Rattle.cert_check.specs.{Kept.AddsPieces, Subjects.problem_of}
use Rattle.cert_check.proofs.kept.later_kept.Given as goal

abbrev pub invariant-loop-arc : goal.invariant-loop-arc
invariant-loop-arc l = AddsPieces (problem_of l.subject) l.subject.answer.now.stages.items l.stage
    (kind_of_bits (problem_of l.subject) l.stage l.source.kind) [] l.kept.items
    (times_held (take l.arc-index (arc_classes l.before)))
