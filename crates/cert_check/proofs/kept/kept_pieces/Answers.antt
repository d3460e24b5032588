use Rattle.std.proofs.Common.{subst}
use Rattle.cert_check.specs.{Left.AreTestsAt, Subjects.problem_of}
use Rattle.cert_check.proofs.kept.kept_pieces.Goals as goal

pub first_kept-requires-clause-tests : goal.first_kept-requires-clause-tests
first_kept-requires-clause-tests c =
    let s = c.args.subject.now in
    rw c.deref.ensures.value
    (subst (λ n. AreTestsAt (problem_of s) n c.args.ground.now.tests.items) c.if-stage-eq0.true c.requires.tests)
