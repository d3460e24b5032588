use Rattle.tier_core.specs.Classes.{sets_of}
use Rattle.answer_text.specs.Text.{set_text}
use Rattle.outside.proofs.Writing.{PushesEach}
use Rattle.answer_text.proofs.class.push_class.Given as goal

abbrev pub invariant-loop-tier : goal.invariant-loop-tier
invariant-loop-tier g l =
    PushesEach g.O.Sink l.fn.sink l.sink l.fn.out l.out set_text (sets_of l.class) l.tier
