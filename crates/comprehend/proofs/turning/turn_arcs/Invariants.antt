use Rattle.answer_text.specs.Right.{numbers_of}
use Rattle.comprehend.specs.Entering.{AreReverseArcs}
use Rattle.comprehend.proofs.Turned.{IsArcSoFar}
use Rattle.comprehend.proofs.turning.turn_arcs.Given as goal

abbrev pub invariant-loop-arc : goal.invariant-loop-arc
invariant-loop-arc l = AreReverseArcs (IsArcSoFar l.states l.source l.arc-index) (numbers_of l.states) l.into.items
