use Rattle.std.proofs.Common.{◌≡◌, drop, false}
use Rattle.tier_core.specs.Timelines.{tier_word}
use Rattle.tier_core.proofs.WordLemmas.{runs}
use Rattle.timeline_text.proofs.tiers.is_well_formed_on.Given as goal

-- the tier reads well exactly where the rest of it does
abbrev pub invariant-loop-column : goal.invariant-loop-column
invariant-loop-column l = runs false (tier_word l.column-items l.tier)
    ≡ runs l.is_open (tier_word (drop l.column-index l.column-items) l.tier)
