-- What a text is read as: a timeline or a cause.
use Rattle.std.specs.Prelude.{◌⊎◌, ℕ, List}
use Rattle.tier_core.specs.declared.sym.Sym.{Sym}
use Rattle.timeline_text.specs.declared.form_err.FormErr.{FormErr}
use Rattle.timeline_text.specs.Texts.{IsTextOf}
use Rattle.timeline_text.specs.Causes.{IsCause}
use Rattle.timeline_text.specs.declared.letter.Letter.{Letter}
use Rattle.timeline_text.specs.Spelling.{IsSpelledBy, IsSpellingCause}

-- a text is that of a timeline, or it has a cause
abbrev pub HasReading : ℕ → ℕ → List ℕ → Type 0
HasReading width limit bytes = ((T : List (List Sym)) × IsTextOf width limit bytes T) ⊎
    ((cause : FormErr) × IsCause width limit bytes cause)

-- a word of letters spells a form, or it has a cause
abbrev pub HasSpelling : List Letter → ℕ → List ℕ → Type 0
HasSpelling letters inputs bytes = ((T : List (List Sym)) × IsSpelledBy letters inputs bytes T) ⊎
    ((cause : FormErr) × IsSpellingCause letters bytes cause)
