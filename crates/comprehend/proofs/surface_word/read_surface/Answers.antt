use Rattle.std.proofs.Common.{◌≤◌, sym, subst}
use Rattle.comprehend.proofs.OvertTiers.{some_overt}
use Rattle.comprehend.proofs.surface_word.read_surface.Goals as goal

pub read_timeline-requires-clause-some : goal.read_timeline-requires-clause-some
read_timeline-requires-clause-some c =
    subst (λ m. 1 ≤ m) (sym c.overt_count-overt.ensures.value) (some_overt c.args.grammar.now)
