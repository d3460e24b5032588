use Rattle.std.proofs.Common.{take}
use Rattle.cert_check.specs.Pieces.{IsUniform}
use Rattle.cert_check.proofs.uniform.is_uniform.Given as goal

abbrev pub invariant-loop-test : goal.invariant-loop-test
invariant-loop-test l = IsUniform (take l.test-index l.tests) l.class
