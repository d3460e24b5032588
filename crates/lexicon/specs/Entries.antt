-- Which entries elements are, and why one is refused.
use Rattle.std.specs.Prelude.{◌≡◌, ℕ, Bool, true, false, None, Some, List, ◌∷◌, ◌++◌, length, map}
use Rattle.std.specs.List.{AllZip, list_any}
use Rattle.std.specs.Str.{bytes_eq}
use Rattle.toml.specs.Data.{Data}
use Rattle.tier_core.specs.declared.sym.Sym.{Sym}
use Rattle.timeline_text.specs.declared.form_err.FormErr.{FormErr}
use Rattle.timeline_text.specs.declared.letter.Letter.{Letter}
use Rattle.grammar_reader.specs.Names.{has_twice}
use Rattle.form_reader.specs.Forms.{IsReadAs, IsRefusedFor}
use Rattle.lexicon.specs.declared.lex_err.LexErr.{LexErr}
use Rattle.lexicon.specs.declared.lex_err.LexErr.TheVariants.{NotToml, TooMany, BadEntry, TwiceNamed, BadForm, NoMemory}
use Rattle.lexicon.specs.Elements.{entry_words}

-- an entry: its name, and its form as a timeline over the input tiers
pub record LexicalEntry : Type 0 where
  pub name : List ℕ
  pub form : List (List Sym)

abbrev pub names_of : List LexicalEntry → List (List ℕ)
names_of entries = map (λ entry. entry.name) entries

-- whether a name is one of those
abbrev pub is_among : List ℕ → List (List ℕ) → Bool
is_among name names = list_any (bytes_eq name) names

-- an element is an entry: it writes the entry's name, and a word that is read as the entry's form
pub record IsEntry (inputs : ℕ) (letters : List Letter) (element : Data) (entry : LexicalEntry) : Type 0 where
  pub word : List ℕ
  pub writes : entry_words element ≡ Some (entry.name, word)
  pub read : IsReadAs inputs letters word entry.form

-- elements are entries, one for one, and no name occurs twice
pub record AreEntries (inputs : ℕ) (letters : List Letter) (elements : List Data)
    (entries : List LexicalEntry) : Type 0 where
  pub each : AllZip (IsEntry inputs letters) elements entries
  pub once : has_twice (names_of entries) ≡ false

-- an element writes a name that is one of those
pub record IsTwiceNamed (names : List (List ℕ)) (element : Data) : Type 0 where
  pub name : List ℕ
  pub word : List ℕ
  pub writes : entry_words element ≡ Some (name, word)
  pub taken : is_among name names ≡ true

-- an element writes a name that is not one of those, and a word that is not read as a form
pub record HasBadForm (inputs : ℕ) (letters : List Letter) (names : List (List ℕ)) (element : Data)
    (cause : FormErr) : Type 0 where
  pub name : List ℕ
  pub word : List ℕ
  pub writes : entry_words element ≡ Some (name, word)
  pub new : is_among name names ≡ false
  pub refused : IsRefusedFor inputs letters word cause

-- why an element is not an entry, after entries with those names; elements are counted from 0
abbrev pub IsEntryFault : ℕ → List Letter → List (List ℕ) → Data → LexErr → Type 0
IsEntryFault inputs letters names element (BadEntry index) = (index ≡ length names) × (entry_words element ≡ None)
IsEntryFault inputs letters names element (TwiceNamed index) = (index ≡ length names) × IsTwiceNamed names element
IsEntryFault inputs letters names element (BadForm index cause) =
    (index ≡ length names) × HasBadForm inputs letters names element cause
IsEntryFault inputs letters names element NotToml = ⊥
IsEntryFault inputs letters names element TooMany = ⊥
IsEntryFault inputs letters names element NoMemory = ⊥

-- The first element that is not an entry gives the cause: those before it are entries.
pub record IsFirstEntryFault (inputs : ℕ) (letters : List Letter) (elements : List Data) (cause : LexErr) : Type 0 where
  pub front : List Data
  pub element : Data
  pub rest : List Data
  pub split : elements ≡ front ++ element ∷ rest
  pub entries : List LexicalEntry
  pub are : AreEntries inputs letters front entries
  pub fault : IsEntryFault inputs letters (names_of entries) element cause
