use Rattle.violation.specs.Prefixes.{kind_of_bits}
use Rattle.cert_check.specs.Subjects.{problem_of}
use Rattle.cert_check.proofs.LeftSteps.{LeftOf}
use Rattle.cert_check.proofs.left.arcs_left.Given as goal

abbrev pub invariant-loop-piece : goal.invariant-loop-piece
invariant-loop-piece l = LeftOf (problem_of l.subject) l.subject.answer.now.stages.items l.stage
    (kind_of_bits (problem_of l.subject) l.stage l.node.kind) l.pieces l.piece-index l.arcs.items
