use Rattle.std.proofs.Common.{◌≡◌, map}
use Rattle.grammar_reader.proofs.read.kinds_of.Given as goal

abbrev pub invariant-loop-kind : goal.invariant-loop-kind
invariant-loop-kind l = l.kinds.items ≡ map (λ x. x.now) l.yielded
