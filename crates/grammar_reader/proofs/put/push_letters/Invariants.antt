use Rattle.outside.proofs.Writing.{PushesEach}
use Rattle.grammar_reader.specs.{Canonical.{letter_words, line_of_words}, NamedTiers.named_tiers}
use Rattle.grammar_reader.proofs.put.push_letters.Given as goal

abbrev pub invariant-loop-letter : goal.invariant-loop-letter
invariant-loop-letter g l =
    PushesEach g.O.Sink l.fn.sink l.sink l.fn.out l.out
    (λ letter. line_of_words (letter_words (named_tiers l.tiers) letter)) l.letters l.letter-index
