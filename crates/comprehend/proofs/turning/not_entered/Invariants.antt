use Rattle.comprehend.specs.Entering.{AreNotEntered}
use Rattle.comprehend.proofs.turning.not_entered.Given as goal

abbrev pub invariant-loop-state : goal.invariant-loop-state
invariant-loop-state l = AreNotEntered l._state l.into.items
