-- What the word of a surface and the bytes of a lexicon file are read as, and what is asked of both.
use Rattle.std.specs.Prelude.{ℕ, ◌≤◌, List, length, map}
use Rattle.tier_core.specs.declared.sym.Sym.{Sym}
use Rattle.timeline_text.specs.declared.form_err.FormErr.{FormErr}
use Rattle.timeline_text.specs.Texts.{IsTextOf}
use Rattle.timeline_text.specs.Causes.{IsCause}
use Rattle.grammar_reader.specs.Values.{GrammarValue}
use Rattle.lexicon.specs.declared.lex_err.LexErr.{LexErr}
use Rattle.lexicon.specs.Entries.{LexicalEntry}
use Rattle.lexicon.specs.Lexicons.{IsLexicon, IsLexiconCause}
use Rattle.violation.specs.Problems.{Problem}
use Rattle.otp_tool.specs.Grammars.{AreAsked, grammar_inputs, overt_count}

-- the timeline over the overt tiers, of at most 64 columns, that a word is read as
abbrev pub IsSurfaceOf : GrammarValue → List ℕ → List (List Sym) → Type 0
IsSurfaceOf g word surface = IsTextOf (overt_count g) 64 word surface

-- why a word is read as no such timeline
abbrev pub IsNoSurface : GrammarValue → List ℕ → FormErr → Type 0
IsNoSurface g word cause = IsCause (overt_count g) 64 word cause

-- the word is read as a surface
abbrev pub HasSurfaceWord : GrammarValue → List ℕ → Type 0
HasSurfaceWord g word = (surface : List (List Sym)) × IsSurfaceOf g word surface

-- bytes are those of a lexicon file, which has these entries
pub record IsLexiconFile (g : GrammarValue) (bytes : List ℕ) (entries : List LexicalEntry) : Type 0 where
  pub within : length bytes ≤ 4194304
  pub are : IsLexicon (grammar_inputs g) g.letters bytes entries

-- they are not, for this cause
pub record IsNoLexiconFile (g : GrammarValue) (bytes : List ℕ) (cause : LexErr) : Type 0 where
  pub within : length bytes ≤ 4194304
  pub refused : IsLexiconCause (grammar_inputs g) g.letters bytes cause

abbrev pub forms_in : List LexicalEntry → List (List (List Sym))
forms_in entries = map (λ entry. entry.form) entries

-- The word is a surface and the file a lexicon, and something holds of the problems that are asked,
-- of the entries and of the surface.
pub record OnLexicon (P : (List (List Sym) → Problem) → List LexicalEntry → List (List Sym) → Type 0)
    (g : GrammarValue) (word bytes : List ℕ) : Type 0 where
  pub ask : List (List Sym) → Problem
  pub are_asked : AreAsked g ask
  pub surface : List (List Sym)
  pub read : IsSurfaceOf g word surface
  pub entries : List LexicalEntry
  pub file : IsLexiconFile g bytes entries
  pub fact : P ask entries surface
