use Rattle.outside.proofs.Writing.{PushesEach}
use Rattle.grammar_reader.specs.Words.{spaced_word}
use Rattle.grammar_reader.proofs.put.push_spaced.Given as goal

abbrev pub invariant-loop-word : goal.invariant-loop-word
invariant-loop-word g l = PushesEach g.O.Sink l.fn.sink l.sink l.fn.out l.out spaced_word l.words l.word-index
