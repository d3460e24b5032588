-- What the word of a timeline over all tiers is read as.
use Rattle.std.specs.Prelude.{ℕ, List}
use Rattle.tier_core.specs.declared.sym.Sym.{Sym}
use Rattle.timeline_text.specs.declared.form_err.FormErr.{FormErr}
use Rattle.timeline_text.specs.Texts.{IsTextOf}
use Rattle.timeline_text.specs.Causes.{IsCause}

-- the timeline over all tiers, of at most 4,096 columns, that a word is read as
abbrev pub IsScored : ℕ → List ℕ → List (List Sym) → Type 0
IsScored width word T = IsTextOf width 4096 word T

-- why a word is read as no such timeline
abbrev pub IsNotScored : ℕ → List ℕ → FormErr → Type 0
IsNotScored width word cause = IsCause width 4096 word cause
