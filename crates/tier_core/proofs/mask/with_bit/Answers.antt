use Rattle.std.proofs.Common.{sym, ◌∙◌, w32}
use Rattle.tier_core.proofs.MaskLemmas.{set_few, set_same, set_other, no_tier_above}
use Rattle.tier_core.proofs.mask.with_bit.Goals as goal

pub returns-then-is_set-clause-within : goal.returns-then-is_set-clause-within
returns-then-is_set-clause-within c = set_few w32 c.args.mask c.args.place c.requires.place c.requires.before

pub returns-then-is_set-clause-here : goal.returns-then-is_set-clause-here
returns-then-is_set-clause-here c = set_same w32 c.args.mask c.args.place c.requires.place ∙ sym c.if-is_set.true

pub returns-then-is_set-clause-others : goal.returns-then-is_set-clause-others
returns-then-is_set-clause-others c t l = set_other w32 c.args.mask c.args.place t c.requires.place l

pub returns-else-is_set-clause-here : goal.returns-else-is_set-clause-here
returns-else-is_set-clause-here c = no_tier_above c.args.mask c.args.place c.requires.before ∙ sym c.if-is_set.false
