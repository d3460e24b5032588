use Rattle.answer_text.specs.Text.{lines_text}
use Rattle.outside.proofs.Writing.{PushesEach}
use Rattle.comprehend.specs.HitText.{names_of, hit_lines}
use Rattle.comprehend.proofs.put.push_hits.Given as goal

abbrev pub invariant-loop-hit : goal.invariant-loop-hit
invariant-loop-hit g l =
    PushesEach g.O.Sink l.fn.sink l.sink l.fn.out l.out
    (λ hit. lines_text (hit_lines (names_of l.lexicon) hit)) l.hits l.hit-index
