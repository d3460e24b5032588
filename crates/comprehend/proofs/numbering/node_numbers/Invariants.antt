use Rattle.std.proofs.Common.{◌≡◌, take}
use Rattle.answer_text.specs.Right.{numbers_of}
use Rattle.comprehend.proofs.numbering.node_numbers.Given as goal

abbrev pub invariant-loop-state : goal.invariant-loop-state
invariant-loop-state l = l.numbers.keys ≡ take l.state-index (numbers_of l.states)
