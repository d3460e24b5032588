-- Which entries a lexicon file has, and why one is refused.
use Rattle.std.specs.Prelude.{◌≡◌, ◌≤◌, ◌⊎◌, ℕ, nat_lt, List, length, Option, Some, None, IsUtf8, MatchBool}
use Rattle.toml.specs.Data.{Data, Members}
use Rattle.toml.specs.Parse.{parse_document}
use Rattle.timeline_text.specs.declared.letter.Letter.{Letter}
use Rattle.lexicon.specs.declared.lex_err.LexErr.{LexErr}
use Rattle.lexicon.specs.declared.lex_err.LexErr.TheVariants.{NotToml, TooMany, BadEntry}
use Rattle.lexicon.specs.Elements.{elements_of}
use Rattle.lexicon.specs.Entries.{LexicalEntry, AreEntries, IsFirstEntryFault}

-- bytes are UTF-8, and denote a table by the grammar of TOML
pub record IsToml (bytes : List ℕ) (table : Members) : Type 0 where
  pub utf8 : IsUtf8 bytes
  pub told : parse_document bytes ≡ Some table

abbrev pub IsNoToml : List ℕ → Type 0
IsNoToml bytes = (¬ IsUtf8 bytes) ⊎ (parse_document bytes ≡ None)

-- bytes are the lexicon of those entries, of which there are at most 1,000
pub record IsLexicon (inputs : ℕ) (letters : List Letter) (bytes : List ℕ) (entries : List LexicalEntry) : Type 0 where
  pub table : Members
  pub toml : IsToml bytes table
  pub elements : List Data
  pub listed : elements_of table ≡ Some elements
  pub few : length elements ≤ 1000
  pub are : AreEntries inputs letters elements entries

-- why a table is not a lexicon: it has no list of elements, or too many of them, or one is not an
-- entry
abbrev pub IsTableCause : ℕ → List Letter → Option (List Data) → LexErr → Type 0
IsTableCause inputs letters None cause = cause ≡ BadEntry 0
IsTableCause inputs letters (Some elements) cause = MatchBool (nat_lt 1000 (length elements)) (cause ≡ TooMany)
    (IsFirstEntryFault inputs letters elements cause)

-- bytes denote a table that is not a lexicon
pub record IsBadTable (inputs : ℕ) (letters : List Letter) (bytes : List ℕ) (cause : LexErr) : Type 0 where
  pub table : Members
  pub toml : IsToml bytes table
  pub refused : IsTableCause inputs letters (elements_of table) cause

-- Why bytes are not a lexicon. Each cause yields to those before it, so that there is at most one.
abbrev pub IsLexiconCause : ℕ → List Letter → List ℕ → LexErr → Type 0
IsLexiconCause inputs letters bytes cause = ((cause ≡ NotToml) × IsNoToml bytes) ⊎ IsBadTable inputs letters bytes cause

-- bytes are a lexicon, or they have a cause
abbrev pub HasLexicon : ℕ → List Letter → List ℕ → Type 0
HasLexicon inputs letters bytes = ((entries : List LexicalEntry) × IsLexicon inputs letters bytes entries) ⊎
    ((cause : LexErr) × IsLexiconCause inputs letters bytes cause)
