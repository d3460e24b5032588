use Rattle.answer_text.specs.Right.{numbers_of}
use Rattle.comprehend.specs.Entering.{AreReverseArcs, IsArcBelow}
use Rattle.comprehend.proofs.turning.reverse_arcs.Given as goal

abbrev pub invariant-loop-source : goal.invariant-loop-source
invariant-loop-source l = AreReverseArcs (IsArcBelow l.states l.source) (numbers_of l.states) l.into.items
