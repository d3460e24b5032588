-- Elements that are entries, gone through one by one.
use Rattle.std.proofs.Common.{◌≡◌, ℕ, ◌+◌, ◌<◌, Bool, true, false, cond, Some, None, List, [], ◌∷◌, ◌++◌, length}
use Rattle.std.proofs.Common.{get_or, take, drop, map, refl, ap, sym, ◌∙◌, subst, arith}
use Rattle.std.proofs.lemmas.List.{length-map, length-take-le, map-append, map_push, take-append-drop, drop_more}
use Rattle.std.proofs.lemmas.List.{take_more}
use Rattle.std.specs.{List.{AllZip, list_any}, Str.bytes_eq}
use Rattle.toml.specs.{Data.Data, View.{view, items_view}, declared.value.Value.Value}
use Rattle.timeline_text.specs.{declared.form_err.FormErr.FormErr, declared.letter.Letter.Letter}
use Rattle.grammar_reader.specs.Names.{has_twice}
use Rattle.grammar_reader.proofs.{Lists.list_any-map, Twice.once_push}
use Rattle.form_reader.specs.Forms.{IsRefusedFor}
use Rattle.lexicon.specs.{declared.entry.Entry.Entry, declared.lex_err.LexErr.LexErr}
use Rattle.lexicon.specs.declared.lex_err.LexErr.TheVariants.{BadEntry, TwiceNamed, BadForm}
use Rattle.lexicon.specs.{Elements.{list_of, entry_words}, Entries.{LexicalEntry, AreEntries, IsEntry, IsEntryFault}}
use Rattle.lexicon.specs.{Entries.{IsFirstEntryFault, is_among, names_of}, Seen.{entries_seen, entry_seen}}
use denote.Ref.{Bor}

-- the elements of an array are what its values stand for
pub list_of-items_view : (values : List Value) → list_of (items_view values) ≡ map view values
list_of-items_view [] = refl
list_of-items_view (value ∷ values) = ap (λ ds. view value ∷ ds) (list_of-items_view values)

-- names in a set are those of the entries
among_keys : (name : List ℕ) (keys : List (Bor (List ℕ))) (entries : List LexicalEntry)
    → map (λ key. key.now) keys ≡ names_of entries
    → list_any (λ key. bytes_eq name key.now) keys ≡ is_among name (names_of entries)
among_keys name keys entries are = sym (list_any-map (bytes_eq name) (λ key. key.now) keys)
    ∙ ap (list_any (bytes_eq name)) are

-- what a look-up of a name in the set tells
pub among_by : (name key : List ℕ) (keys : List (Bor (List ℕ))) (entries : List LexicalEntry) (found told : Bool)
    → map (λ k. k.now) keys ≡ names_of entries
    → key ≡ name → found ≡ list_any (λ k. bytes_eq key k.now) keys → found ≡ told
    → is_among name (names_of entries) ≡ told
among_by name key keys entries found told are same is e =
    ap (λ n. is_among n (names_of entries)) (sym same) ∙ sym (among_keys key keys entries are) ∙ sym is ∙ e

-- a name that is not in the set goes last
pub keys_more : (name : List ℕ) (key : Bor (List ℕ)) (keys new : List (Bor (List ℕ))) (entries : List LexicalEntry)
    (entry : LexicalEntry) → map (λ k. k.now) keys ≡ names_of entries
    → key.now ≡ name → is_among name (names_of entries) ≡ false
    → new ≡ cond (list_any (λ k. bytes_eq key.now k.now) keys) keys (keys ++ key ∷ []) → entry.name ≡ name
    → map (λ k. k.now) new ≡ names_of (entries ++ entry ∷ [])
keys_more name key keys new entries entry are same absent e named =
    ap (map (λ k. k.now)) (e ∙ ap (λ t. cond t keys (keys ++ key ∷ []))
    (among_keys key.now keys entries are ∙ ap (λ n. is_among n (names_of entries)) same ∙ absent))
    ∙ map_push (λ k. k.now) keys key
    ∙ ap (λ ns. ns ++ key.now ∷ []) are ∙ ap (λ n. names_of entries ++ n ∷ []) (same ∙ sym named)
    ∙ sym (map_push (λ (x : LexicalEntry). x.name) entries entry)

-- entries that are seen, with one more
pub seen_more : (old new : List Entry) (entry : Entry) → new ≡ old ++ entry ∷ []
    → entries_seen old ++ entry_seen entry ∷ [] ≡ entries_seen new
seen_more old new entry e = sym (ap entries_seen e ∙ map_push entry_seen old entry)

module _ (inputs : ℕ) (letters : List Letter) where
  zip_push : (ds : List Data) (es : List LexicalEntry) (d : Data) (e : LexicalEntry)
      → AllZip (IsEntry inputs letters) ds es → IsEntry inputs letters d e
      → AllZip (IsEntry inputs letters) (ds ++ d ∷ []) (es ++ e ∷ [])
  zip_push [] [] d e z h = (h, tt)
  zip_push [] (f ∷ es) d e z h = absurd z
  zip_push (c ∷ ds) [] d e z h = absurd z
  zip_push (c ∷ ds) (f ∷ es) d e z h = (z.0, zip_push ds es d e z.1 h)

  pub zip_length : (ds : List Data) (es : List LexicalEntry) → AllZip (IsEntry inputs letters) ds es
      → length ds ≡ length es
  zip_length [] [] z = refl
  zip_length [] (e ∷ es) z = absurd z
  zip_length (d ∷ ds) [] z = absurd z
  zip_length (d ∷ ds) (e ∷ es) z = let n = zip_length ds es z.1 in omega arith

  pub no_entries : AreEntries inputs letters [] []
  no_entries = record { each = tt; once = refl }

  -- one element more that is an entry, with a name of its own
  pub one_more : (ds : List Data) (es : List LexicalEntry) (d : Data) (e : LexicalEntry)
      → AreEntries inputs letters ds es → IsEntry inputs letters d e → is_among e.name (names_of es) ≡ false
      → AreEntries inputs letters (ds ++ d ∷ []) (es ++ e ∷ [])
  one_more ds es d e are is new = record {
    each = zip_push ds es d e are.each is;
    once = ap has_twice (map_push (λ (x : LexicalEntry). x.name) es e) ∙ once_push (names_of es) e.name are.once new;
  }

  -- values whose first ones are entries, and the value behind those
  module _ (values : List Value) (place : ℕ) (value : Value) (here : place < length values)
      (at : value ≡ get_or values place value) (entries : List LexicalEntry)
      (are : AreEntries inputs letters (map view (take place values)) entries) where
    parts : map view values ≡ map view (take place values) ++ view value ∷ map view (drop (place + 1) values)
    parts = ap (map view) (sym (take-append-drop place values)
        ∙ ap (λ vs. take place values ++ vs)
        (drop_more values place value here ∙ ap (λ v. v ∷ drop (place + 1) values) (sym at)))
        ∙ map-append view (take place values) (value ∷ drop (place + 1) values)

    -- the number of names is the place
    index_of : place ≡ length (names_of entries)
    index_of =
        let a = zip_length (map view (take place values)) entries are.each in
        let b = length-map (take place values) view in
        let c = length-take-le place values (omega arith) in
        let d = length-map entries (λ (x : LexicalEntry). x.name) in
        omega arith

    -- it is an entry
    pub next_entry : (entry : LexicalEntry) → IsEntry inputs letters (view value) entry
        → is_among entry.name (names_of entries) ≡ false
        → AreEntries inputs letters (map view (take (place + 1) values)) (entries ++ entry ∷ [])
    next_entry entry is new =
        subst (λ (ds : List Data). AreEntries inputs letters ds (entries ++ entry ∷ []))
        (sym (ap (map view) (take_more values place value here ∙ ap (λ v. take place values ++ v ∷ []) (sym at))
        ∙ map_push view (take place values) value))
        (one_more (map view (take place values)) entries (view value) entry are is new)

    -- or it is none, for this cause
    first_fault : (cause : LexErr) → IsEntryFault inputs letters (names_of entries) (view value) cause
        → IsFirstEntryFault inputs letters (map view values) cause
    first_fault cause is = record {
      front = map view (take place values);
      element = view value;
      rest = map view (drop (place + 1) values);
      split = parts;
      entries = entries;
      are = are;
      fault = is;
    }

    pub bad_entry : entry_words (view value) ≡ None
        → IsFirstEntryFault inputs letters (map view values) (BadEntry place)
    bad_entry none = first_fault (BadEntry place) (index_of, none)

    pub twice_named : (name word : List ℕ) → entry_words (view value) ≡ Some (name, word)
        → is_among name (names_of entries) ≡ true
        → IsFirstEntryFault inputs letters (map view values) (TwiceNamed place)
    twice_named name word writes taken = first_fault (TwiceNamed place)
        (index_of, record { name = name; word = word; writes = writes; taken = taken })

    pub bad_form : (name word : List ℕ) (cause : FormErr) → entry_words (view value) ≡ Some (name, word)
        → is_among name (names_of entries) ≡ false → IsRefusedFor inputs letters word cause
        → IsFirstEntryFault inputs letters (map view values) (BadForm place cause)
    bad_form name word cause writes new refused = first_fault (BadForm place cause)
        (index_of, record { name = name; word = word; writes = writes; new = new; refused = refused })

    -- the same, where the refusal says its cause
    pub refused_word : (name word : List ℕ) (e : LexErr) → entry_words (view value) ≡ Some (name, word)
        → is_among name (names_of entries) ≡ false
        → (cause : FormErr) × (e ≡ BadForm place cause) × IsRefusedFor inputs letters word cause
        → IsFirstEntryFault inputs letters (map view values) e
    refused_word name word e writes new (cause, is, refused) =
        subst (λ (x : LexErr). IsFirstEntryFault inputs letters (map view values) x) (sym is)
        (bad_form name word cause writes new refused)
