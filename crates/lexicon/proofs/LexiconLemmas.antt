-- Bytes are a lexicon, or they have a cause, and never both.
use Rattle.std.proofs.Common.{◌≡◌, ◌⊎◌, inl, inr, ℕ, ◌<◌, ◌≤◌, Bool, true, false, nat_lt, Option, Some, None}
use Rattle.std.proofs.Common.{option_map, List, codes, length, map, MatchBool, refl, ap, sym, ◌∙◌, subst, arith}
use Rattle.std.proofs.{lemmas.Bool.false≢true, lemmas.Bool.Decides.nat_tests, lemmas.Option.same_Some}
use Rattle.std.proofs.lemmas.Str.{IsUtf8-from_is_utf8, is_utf8-from_IsUtf8}
use Rattle.std.specs.Str.{is_utf8}
use Rattle.toml.specs.{Data.{Data, Members, as_array, get_member}, Parse.parse_document, View.{view, items_view}}
use Rattle.toml.specs.declared.value.Value.{Value}
use Rattle.timeline_text.specs.declared.letter.Letter.{Letter}
use Rattle.timeline_text.proofs.Searches.{by_test, by_option, none_some}
use Rattle.form_reader.proofs.ReadingLemmas.{by_choices, when_true, when_false}
use Rattle.lexicon.specs.declared.lex_err.LexErr.{LexErr}
use Rattle.lexicon.specs.declared.lex_err.LexErr.TheVariants.{NotToml, TooMany, BadEntry}
use Rattle.lexicon.specs.Elements.{elements_of, elements_under, list_of}
use Rattle.lexicon.specs.Entries.{LexicalEntry, AreEntries, IsFirstEntryFault}
use Rattle.lexicon.specs.Lexicons.{HasLexicon, IsLexicon, IsLexiconCause, IsNoToml, IsTableCause, IsToml}
use Rattle.lexicon.proofs.EntryLemmas.{list_of-items_view}
use Rattle.lexicon.proofs.FaultLemmas.{entries_or_fault, no_first_fault, one_first_fault, one_list}

one_table : (bytes : List ℕ) (s t : Members) → IsToml bytes s → IsToml bytes t → s ≡ t
one_table bytes s t a b = same_Some s t (sym a.told ∙ b.told)

toml_or_none : (bytes : List ℕ) (t : Members) → IsToml bytes t → IsNoToml bytes → ⊥
toml_or_none bytes t a (inl other) = other a.utf8
toml_or_none bytes t a (inr none) = none_some none a.told

-- and where it holds an array, these are its elements
pub listed_are : (table : Members) (d : Data) (values : List Value) → Some d ≡ get_member (codes "entry") table
    → Some (items_view values) ≡ as_array d → elements_of table ≡ Some (map view values)
listed_are table d values e f = ap elements_under (sym e) ∙ ap (option_map list_of) (sym f)
    ∙ ap Some (list_of-items_view values)

module _ (inputs : ℕ) (letters : List Letter) where
  few_or_many : (ds : List Data) (es : List LexicalEntry) (cause : LexErr) → length ds ≤ 1000
      → AreEntries inputs letters ds es → IsTableCause inputs letters (Some ds) cause → ⊥
  few_or_many ds es cause few are refused = by_test (nat_lt 1000 (length ds))
      (λ many. let l : 1000 < length ds = grind (arith, nat_tests) in omega arith)
      (λ h. no_first_fault inputs letters ds es cause are
      (subst (λ (t : Bool). MatchBool t (cause ≡ TooMany) (IsFirstEntryFault inputs letters ds cause)) h refused))

  one_table_cause : (o : Option (List Data)) (cause other : LexErr) → IsTableCause inputs letters o cause
      → IsTableCause inputs letters o other → cause ≡ other
  one_table_cause None cause other a b = a ∙ sym b
  one_table_cause (Some ds) cause other a b =
      by_choices (nat_lt 1000 (length ds)) (cause ≡ TooMany) (IsFirstEntryFault inputs letters ds cause)
      (other ≡ TooMany)
      (IsFirstEntryFault inputs letters ds other) (cause ≡ other) a b
      (λ e f. e ∙ sym f)
      (λ f g. one_first_fault inputs letters ds cause other f g)

  module _ (bytes : List ℕ) where
    pub one_lexicon : (es fs : List LexicalEntry) → IsLexicon inputs letters bytes es
        → IsLexicon inputs letters bytes fs → es ≡ fs
    one_lexicon es fs a b =
        let tables : a.table ≡ b.table = one_table bytes a.table b.table a.toml b.toml in
        let same : a.elements ≡ b.elements = same_Some a.elements b.elements
        (sym a.listed ∙ ap elements_of tables ∙ b.listed) in
        let are : AreEntries inputs letters b.elements es = subst
        (λ (ds : List Data). AreEntries inputs letters ds es) same a.are in
        one_list inputs letters b.elements es fs are.each b.are.each

    pub one_cause : (cause other : LexErr) → IsLexiconCause inputs letters bytes cause
        → IsLexiconCause inputs letters bytes other → cause ≡ other
    one_cause cause other (inl a) (inl b) = a.0 ∙ sym b.0
    one_cause cause other (inl a) (inr b) = absurd (toml_or_none bytes b.table b.toml a.1)
    one_cause cause other (inr a) (inl b) = absurd (toml_or_none bytes a.table a.toml b.1)
    one_cause cause other (inr a) (inr b) =
        let tables : a.table ≡ b.table = one_table bytes a.table b.table a.toml b.toml in
        one_table_cause (elements_of b.table) cause other
        (subst (λ (t : Members). IsTableCause inputs letters (elements_of t) cause) tables a.refused) b.refused

    pub not_both : (es : List LexicalEntry) (cause : LexErr) → IsLexicon inputs letters bytes es
        → IsLexiconCause inputs letters bytes cause → ⊥
    not_both es cause a (inl b) = toml_or_none bytes a.table a.toml b.1
    not_both es cause a (inr b) =
        let tables : b.table ≡ a.table = one_table bytes b.table a.table b.toml a.toml in
        let here : IsTableCause inputs letters (elements_of a.table) cause = subst
        (λ (t : Members). IsTableCause inputs letters (elements_of t) cause) tables b.refused in
        few_or_many a.elements es cause a.few a.are
        (subst (λ (o : Option (List Data)). IsTableCause inputs letters o cause) a.listed here)

    -- a table that is no lexicon
    pub bad_table : (table : Members) (o : Option (List Data)) (cause : LexErr) → IsToml bytes table
        → elements_of table ≡ o → IsTableCause inputs letters o cause → IsLexiconCause inputs letters bytes cause
    bad_table table o cause toml e refused =
        inr (record {
          table = table;
          toml = toml;
          refused = subst (λ (p : Option (List Data)). IsTableCause inputs letters p cause) (sym e) refused;
        })

    pub too_many : (table : Members) (ds : List Data) → IsToml bytes table → elements_of table ≡ Some ds
        → 1000 < length ds → IsLexiconCause inputs letters bytes TooMany
    too_many table ds toml e many =
        bad_table table (Some ds) TooMany toml e
        (when_true (nat_lt 1000 (length ds)) _ _
        (let h : nat_lt 1000 (length ds) ≡ true = grind (arith, nat_tests) in h) refl)

    pub bad_element : (table : Members) (ds : List Data) (cause : LexErr) → IsToml bytes table
        → elements_of table ≡ Some ds → length ds ≤ 1000 → IsFirstEntryFault inputs letters ds cause
        → IsLexiconCause inputs letters bytes cause
    bad_element table ds cause toml e few fault =
        bad_table table (Some ds) cause toml e
        (when_false (nat_lt 1000 (length ds)) _ _
        (let h : nat_lt 1000 (length ds) ≡ false = grind (arith, nat_tests) in h) fault)

    pub is_lexicon : (table : Members) (ds : List Data) (es : List LexicalEntry) → IsToml bytes table
        → elements_of table ≡ Some ds → length ds ≤ 1000 → AreEntries inputs letters ds es
        → IsLexicon inputs letters bytes es
    is_lexicon table ds es toml e few are = record
        { table = table; toml = toml; elements = ds; listed = e; few = few; are = are }

    pub has_lexicon : HasLexicon inputs letters bytes
    has_lexicon = by_test (is_utf8 bytes)
        (λ h. by_option (parse_document bytes)
        (λ table told. from_table table (record { utf8 = IsUtf8-from_is_utf8 bytes h; told = told }))
        (λ none. inr (NotToml, inl (refl, inr none))))
        (λ h. inr (NotToml, inl (refl, inl (λ u. false≢true (sym h ∙ is_utf8-from_IsUtf8 bytes u)))))
      where
        from_elements : (table : Members) (ds : List Data) → IsToml bytes table → elements_of table ≡ Some ds
            → length ds ≤ 1000
            → ((es : List LexicalEntry) × AreEntries inputs letters ds es) ⊎
            ((cause : LexErr) × IsFirstEntryFault inputs letters ds cause) → HasLexicon inputs letters bytes
        from_elements table ds toml e few (inl (es, are)) = inl (es, is_lexicon table ds es toml e few are)
        from_elements table ds toml e few (inr (cause, fault)) = inr
            (cause, bad_element table ds cause toml e few fault)

        from_table : (table : Members) → IsToml bytes table → HasLexicon inputs letters bytes
        from_table table toml = by_option (elements_of table)
            (λ ds e. by_test (nat_lt 1000 (length ds))
            (λ h. let many : 1000 < length ds = grind (arith, nat_tests) in inr
            (TooMany, too_many table ds toml e many))
            (λ h. let few : length ds ≤ 1000 = grind (arith, nat_tests) in from_elements table ds toml e few
            (entries_or_fault inputs letters ds)))
            (λ e. inr (BadEntry 0, bad_table table None (BadEntry 0) toml e refl))
