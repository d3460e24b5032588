use Rattle.std.proofs.Common.{arith}
use Rattle.cert_check.proofs.{LeftSteps.kinds_few, TightSteps.tells_fit}
use Rattle.cert_check.proofs.kept.target_of.Goals as goal

pub find_near-requires-clause-fits : goal.find_near-requires-clause-fits
find_near-requires-clause-fits c =
    tells_fit _ c.requires.ready _ c.requires.stage _ _ c.next_kind-target.ensures

pub overflow_cast-result : goal.overflow_cast-result
overflow_cast-result c =
    omega (
      arith,
      kinds_few c.args.subject.now c.requires.ready _ c.requires.stage _ _ c.in-Some.ensures,
    )
