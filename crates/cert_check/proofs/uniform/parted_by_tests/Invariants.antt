use Rattle.std.proofs.Common.{take}
use Rattle.cert_check.specs.Fitting.{ArePartedByTests}
use Rattle.cert_check.proofs.uniform.parted_by_tests.Given as goal

abbrev pub invariant-loop-test : goal.invariant-loop-test
invariant-loop-test l = ArePartedByTests l.width (take l.test-index l.tests) l.fn.pieces.items l.parts.items
