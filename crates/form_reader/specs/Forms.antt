-- What a grammar reads the word of a form as.
use Rattle.std.specs.Prelude.{ℕ, ◌==◌, ◌⊎◌, Bool, List, slice_index_or, MatchBool}
use Rattle.tier_core.specs.declared.sym.Sym.{Sym}
use Rattle.timeline_text.specs.declared.form_err.FormErr.{FormErr}
use Rattle.timeline_text.specs.declared.letter.Letter.{Letter}
use Rattle.timeline_text.specs.Texts.{IsTextOf}
use Rattle.timeline_text.specs.Causes.{IsCause}
use Rattle.timeline_text.specs.Spelling.{IsSpelledBy, IsSpellingCause}

-- a form that begins with `=` is spelled by letters
abbrev pub is_spelled : List ℕ → Bool
is_spelled word = slice_index_or word 0 0 == 61

-- the form over so many input tiers that a word is read as: spelled by letters, or the text of a
-- timeline of at most 64 columns
abbrev pub IsReadAs : ℕ → List Letter → List ℕ → List (List Sym) → Type 0
IsReadAs inputs letters word u = MatchBool (is_spelled word) (IsSpelledBy letters inputs word u)
    (IsTextOf inputs 64 word u)

-- why a word is not read as a form
abbrev pub IsRefusedFor : ℕ → List Letter → List ℕ → FormErr → Type 0
IsRefusedFor inputs letters word cause = MatchBool (is_spelled word) (IsSpellingCause letters word cause)
    (IsCause inputs 64 word cause)

-- a word is read as a form, or it has a cause
abbrev pub HasFormOrCause : ℕ → List Letter → List ℕ → Type 0
HasFormOrCause inputs letters word = ((u : List (List Sym)) × IsReadAs inputs letters word u) ⊎
    ((cause : FormErr) × IsRefusedFor inputs letters word cause)
