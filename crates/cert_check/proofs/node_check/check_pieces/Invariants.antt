use Rattle.cert_check.specs.{Kept.kept_classes, Nodes.IsLeastWrong, Subjects.problem_of}
use Rattle.cert_check.proofs.node_check.check_pieces.Given as goal

abbrev pub invariant-loop-next : goal.invariant-loop-next
invariant-loop-next l = IsLeastWrong (problem_of l.subject) l.subject.answer.now l.stage l.number
    (kept_classes l.pieces)
    l.next l.best
