-- Elements are entries, or one of them is the first that is none, and never both.
use Rattle.std.proofs.Common.{◌≡◌, ◌⊎◌, inl, inr, ℕ, false, Option, Some, List, [], ◌∷◌, ◌++◌, length, append-nil}
use Rattle.std.proofs.{Common.{append_assoc, refl, ap, sym, ◌∙◌, subst}, lemmas.Bool.false≢true}
use Rattle.std.proofs.{lemmas.List.map-append, lemmas.Option.same_Some}
use Rattle.std.specs.List.{AllZip}
use Rattle.toml.specs.Data.{Data}
use Rattle.tier_core.specs.declared.sym.Sym.{Sym}
use Rattle.timeline_text.specs.{declared.form_err.FormErr.FormErr, declared.letter.Letter.Letter}
use Rattle.timeline_text.proofs.Searches.{by_test, by_option, none_some}
use Rattle.grammar_reader.specs.Names.{has_twice}
use Rattle.grammar_reader.proofs.Twice.{twice_after}
use Rattle.form_reader.specs.Forms.{HasFormOrCause, IsReadAs, IsRefusedFor}
use Rattle.form_reader.proofs.ReadingLemmas.{has_form, not_refused, one_reading, one_refusal}
use Rattle.lexicon.specs.{declared.lex_err.LexErr.LexErr, declared.lex_err.LexErr.TheVariants.{NotToml, TooMany}}
use Rattle.lexicon.specs.declared.lex_err.LexErr.TheVariants.{BadEntry, TwiceNamed, BadForm, NoMemory}
use Rattle.lexicon.specs.{Elements.entry_words, Entries.{LexicalEntry, AreEntries, HasBadForm, IsEntry, IsEntryFault}}
use Rattle.lexicon.specs.Entries.{IsFirstEntryFault, IsTwiceNamed, is_among, names_of}
use Rattle.lexicon.proofs.EntryLemmas.{no_entries, one_more}

same_names : {o : Option (List ℕ × List ℕ)} (m n v w : List ℕ) → o ≡ Some (m, v) → o ≡ Some (n, w) → m ≡ n
same_names m n v w e f = ap (λ p. p.0) (same_Some (m, v) (n, w) (sym e ∙ f))

same_words : {o : Option (List ℕ × List ℕ)} (m n v w : List ℕ) → o ≡ Some (m, v) → o ≡ Some (n, w) → v ≡ w
same_words m n v w e f = ap (λ p. p.1) (same_Some (m, v) (n, w) (sym e ∙ f))

same_entry : (e f : LexicalEntry) → e.name ≡ f.name → e.form ≡ f.form → e ≡ f
same_entry e f names forms =
    ap (λ (n : List ℕ). let r : LexicalEntry = record { name = n; form = e.form } in r) names
    ∙ ap (λ (u : List (List Sym)). let r : LexicalEntry = record { name = f.name; form = u } in r) forms

first_of_lists : (x y : Data) (xs ys : List Data) → x ∷ xs ≡ y ∷ ys → x ≡ y
first_of_lists x y xs ys e = cc

rest_of_lists : (x y : Data) (xs ys : List Data) → x ∷ xs ≡ y ∷ ys → xs ≡ ys
rest_of_lists x y xs ys e = cc

-- where two parts of a list begin: at one place, or the one in the front of the other
data Places (xs ys : List Data) (d e : Data) : Type 0 where
  together : xs ≡ ys → d ≡ e → Places xs ys d e
  before : (zs : List Data) → ys ≡ xs ++ d ∷ zs → Places xs ys d e
  behind : (zs : List Data) → xs ≡ ys ++ e ∷ zs → Places xs ys d e

further : (x y : Data) (xs ys : List Data) (d e : Data) → x ≡ y → Places xs ys d e → Places (x ∷ xs) (y ∷ ys) d e
further x y xs ys d e same (together a b) = together (ap (λ z. z ∷ xs) same ∙ ap (λ zs. y ∷ zs) a) b
further x y xs ys d e same (before zs a) = before zs (ap (λ z. z ∷ ys) (sym same) ∙ ap (λ ws. x ∷ ws) a)
further x y xs ys d e same (behind zs a) = behind zs (ap (λ z. z ∷ xs) same ∙ ap (λ ws. y ∷ ws) a)

two_places : (xs ys : List Data) (d e : Data) (rest more : List Data) → xs ++ d ∷ rest ≡ ys ++ e ∷ more
    → Places xs ys d e
two_places [] [] d e rest more h = together refl (first_of_lists d e rest more h)
two_places [] (y ∷ ys) d e rest more h = before ys (ap (λ z. z ∷ ys) (sym (first_of_lists d y rest (ys ++ e ∷ more) h)))
two_places (x ∷ xs) [] d e rest more h = behind xs (ap (λ z. z ∷ xs) (first_of_lists x e (xs ++ d ∷ rest) more h))
two_places (x ∷ xs) (y ∷ ys) d e rest more h =
    further x y xs ys d e (first_of_lists x y (xs ++ d ∷ rest) (ys ++ e ∷ more) h)
    (two_places xs ys d e rest more (rest_of_lists x y (xs ++ d ∷ rest) (ys ++ e ∷ more) h))

-- the entry of an element among others
record Among (inputs : ℕ) (letters : List Letter) (xs : List Data) (d : Data) (es : List LexicalEntry) : Type 0 where
  front : List LexicalEntry
  entry : LexicalEntry
  rest : List LexicalEntry
  split : es ≡ front ++ entry ∷ rest
  each : AllZip (IsEntry inputs letters) xs front
  is : IsEntry inputs letters d entry

-- an element behind those names: an entry with a name of its own, or a cause
data Outcome (inputs : ℕ) (letters : List Letter) (names : List (List ℕ)) (d : Data) : Type 0 where
  fits : (e : LexicalEntry) → IsEntry inputs letters d e → is_among e.name names ≡ false
      → Outcome inputs letters names d
  fails : (cause : LexErr) → IsEntryFault inputs letters names d cause → Outcome inputs letters names d

module _ (inputs : ℕ) (letters : List Letter) where
  -- an element is one entry at most
  one_entry : (d : Data) (e f : LexicalEntry) → IsEntry inputs letters d e → IsEntry inputs letters d f → e ≡ f
  one_entry d e f a b =
      let words : a.word ≡ b.word = same_words e.name f.name a.word b.word a.writes b.writes in
      same_entry e f (same_names e.name f.name a.word b.word a.writes b.writes)
      (one_reading inputs letters b.word e.form f.form
      (subst (λ (w : List ℕ). IsReadAs inputs letters w e.form) words a.read) b.read)

  pub one_list : (ds : List Data) (es fs : List LexicalEntry) → AllZip (IsEntry inputs letters) ds es
      → AllZip (IsEntry inputs letters) ds fs → es ≡ fs
  one_list [] [] [] a b = refl
  one_list [] [] (f ∷ fs) a b = absurd b
  one_list [] (e ∷ es) fs a b = absurd a
  one_list (d ∷ ds) [] fs a b = absurd a
  one_list (d ∷ ds) (e ∷ es) [] a b = absurd b
  one_list (d ∷ ds) (e ∷ es) (f ∷ fs) a b = ap (λ x. x ∷ es) (one_entry d e f a.0 b.0)
      ∙ ap (λ xs. f ∷ xs) (one_list ds es fs a.1 b.1)

  entry_among : (xs : List Data) (d : Data) (zs : List Data) (es : List LexicalEntry)
      → AllZip (IsEntry inputs letters) (xs ++ d ∷ zs) es → Among inputs letters xs d es
  entry_among [] d zs [] a = absurd a
  entry_among [] d zs (e ∷ es) a = record { front = []; entry = e; rest = es; split = refl; each = tt; is = a.0 }
  entry_among (x ∷ xs) d zs [] a = absurd a
  entry_among (x ∷ xs) d zs (e ∷ es) a =
      let inner = entry_among xs d zs es a.1 in
      record {
        front = e ∷ inner.front;
        entry = inner.entry;
        rest = inner.rest;
        split = ap (λ fs. e ∷ fs) inner.split;
        each = (a.0, inner.each);
        is = inner.is;
      }

  -- no name before it is its own
  new_name : (front : List LexicalEntry) (e : LexicalEntry) (rest : List LexicalEntry)
      → has_twice (names_of (front ++ e ∷ rest)) ≡ false → is_among e.name (names_of front) ≡ false
  new_name front e rest once = by_test (is_among e.name (names_of front))
      (λ h. absurd (false≢true (sym once ∙ ap has_twice (map-append (λ (x : LexicalEntry). x.name) front (e ∷ rest))
      ∙ twice_after (names_of front) e.name (names_of rest) h)))
      (λ h. h)

  -- an element that is an entry with a name of its own has no cause
  entry_or_fault : (names : List (List ℕ)) (d : Data) (e : LexicalEntry) (cause : LexErr) → IsEntry inputs letters d e
      → is_among e.name names ≡ false → IsEntryFault inputs letters names d cause → ⊥
  entry_or_fault names d e NotToml is new f = f
  entry_or_fault names d e TooMany is new f = f
  entry_or_fault names d e (BadEntry index) is new f = none_some f.1 is.writes
  entry_or_fault names d e (TwiceNamed index) is new f =
      false≢true (sym new ∙ ap (λ n. is_among n names)
      (same_names e.name f.1.name is.word f.1.word is.writes f.1.writes) ∙ f.1.taken)
  entry_or_fault names d e (BadForm index cause) is new f =
      not_refused inputs letters f.1.word e.form cause
      (subst (λ (w : List ℕ). IsReadAs inputs letters w e.form)
      (same_words e.name f.1.name is.word f.1.word is.writes f.1.writes) is.read) f.1.refused
  entry_or_fault names d e NoMemory is new f = f

  twice_or_bad : (names : List (List ℕ)) (d : Data) (cause : FormErr) → IsTwiceNamed names d
      → HasBadForm inputs letters names d cause → ⊥
  twice_or_bad names d cause t b = false≢true
      (sym b.new ∙ ap (λ n. is_among n names) (same_names b.name t.name b.word t.word b.writes t.writes) ∙ t.taken)

  one_bad_form : (names : List (List ℕ)) (d : Data) (cause other : FormErr) → HasBadForm inputs letters names d cause
      → HasBadForm inputs letters names d other → cause ≡ other
  one_bad_form names d cause other a b =
      one_refusal inputs letters b.word cause other
      (subst (λ (w : List ℕ). IsRefusedFor inputs letters w cause)
      (same_words a.name b.name a.word b.word a.writes b.writes) a.refused) b.refused

  -- an element has one cause at most
  one_fault : (names : List (List ℕ)) (d : Data) (cause other : LexErr) → IsEntryFault inputs letters names d cause
      → IsEntryFault inputs letters names d other → cause ≡ other
  one_fault names d NotToml other f g = absurd f
  one_fault names d TooMany other f g = absurd f
  one_fault names d NoMemory other f g = absurd f
  one_fault names d (BadEntry i) NotToml f g = absurd g
  one_fault names d (BadEntry i) TooMany f g = absurd g
  one_fault names d (BadEntry i) NoMemory f g = absurd g
  one_fault names d (BadEntry i) (BadEntry j) f g = ap BadEntry (f.0 ∙ sym g.0)
  one_fault names d (BadEntry i) (TwiceNamed j) f g = absurd (none_some f.1 g.1.writes)
  one_fault names d (BadEntry i) (BadForm j k) f g = absurd (none_some f.1 g.1.writes)
  one_fault names d (TwiceNamed i) NotToml f g = absurd g
  one_fault names d (TwiceNamed i) TooMany f g = absurd g
  one_fault names d (TwiceNamed i) NoMemory f g = absurd g
  one_fault names d (TwiceNamed i) (BadEntry j) f g = absurd (none_some g.1 f.1.writes)
  one_fault names d (TwiceNamed i) (TwiceNamed j) f g = ap TwiceNamed (f.0 ∙ sym g.0)
  one_fault names d (TwiceNamed i) (BadForm j k) f g = absurd (twice_or_bad names d k f.1 g.1)
  one_fault names d (BadForm i c) NotToml f g = absurd g
  one_fault names d (BadForm i c) TooMany f g = absurd g
  one_fault names d (BadForm i c) NoMemory f g = absurd g
  one_fault names d (BadForm i c) (BadEntry j) f g = absurd (none_some g.1 f.1.writes)
  one_fault names d (BadForm i c) (TwiceNamed j) f g = absurd (twice_or_bad names d c g.1 f.1)
  one_fault names d (BadForm i c) (BadForm j k) f g = ap (λ n. BadForm n c) (f.0 ∙ sym g.0)
      ∙ ap (BadForm j) (one_bad_form names d c k f.1 g.1)

  -- an element among entries has no cause
  no_fault_among : (xs : List Data) (d : Data) (zs : List Data) (all front : List LexicalEntry) (cause : LexErr)
      → AreEntries inputs letters (xs ++ d ∷ zs) all → AreEntries inputs letters xs front
      → IsEntryFault inputs letters (names_of front) d cause → ⊥
  no_fault_among xs d zs all front cause a b f =
      let m = entry_among xs d zs all a.each in
      let same : front ≡ m.front = one_list xs front m.front b.each m.each in
      let new = new_name m.front m.entry m.rest (ap (λ es. has_twice (names_of es)) (sym m.split) ∙ a.once) in
      entry_or_fault (names_of m.front) d m.entry cause m.is new
      (subst (λ (es : List LexicalEntry). IsEntryFault inputs letters (names_of es) d cause) same f)

  -- elements that are entries have no cause
  pub no_first_fault : (ds : List Data) (es : List LexicalEntry) (cause : LexErr) → AreEntries inputs letters ds es
      → IsFirstEntryFault inputs letters ds cause → ⊥
  no_first_fault ds es cause a f =
      no_fault_among f.front f.element f.rest es f.entries cause
      (subst (λ (xs : List Data). AreEntries inputs letters xs es) f.split a) f.are f.fault

  -- elements have one cause at most
  pub one_first_fault : (ds : List Data) (cause other : LexErr) → IsFirstEntryFault inputs letters ds cause
      → IsFirstEntryFault inputs letters ds other → cause ≡ other
  one_first_fault ds cause other f g = from
      (two_places f.front g.front f.element g.element f.rest g.rest (sym f.split ∙ g.split))
    where
      at_one : f.front ≡ g.front → f.element ≡ g.element → cause ≡ other
      at_one a b =
          let c : AllZip (IsEntry inputs letters) g.front f.entries = subst
          (λ (xs : List Data). AllZip (IsEntry inputs letters) xs f.entries) a f.are.each in
          let same : f.entries ≡ g.entries = one_list g.front f.entries g.entries c g.are.each in
          let here : IsEntryFault inputs letters (names_of f.entries) g.element cause = subst
          (λ (d : Data). IsEntryFault inputs letters (names_of f.entries) d cause) b f.fault in
          one_fault (names_of g.entries) g.element cause other
          (subst (λ (es : List LexicalEntry). IsEntryFault inputs letters (names_of es) g.element cause) same here)
          g.fault

      from : Places f.front g.front f.element g.element → cause ≡ other
      from (together a b) = at_one a b
      from (before zs a) = absurd (no_fault_among f.front f.element zs g.entries f.entries cause
          (subst (λ (xs : List Data). AreEntries inputs letters xs g.entries) a g.are) f.are f.fault)
      from (behind zs a) = absurd (no_fault_among g.front g.element zs f.entries g.entries other
          (subst (λ (xs : List Data). AreEntries inputs letters xs f.entries) a f.are) g.are g.fault)

  outcome_of : (names : List (List ℕ)) (d : Data) → Outcome inputs letters names d
  outcome_of names d = by_option (entry_words d) writes (λ none. fails (BadEntry (length names)) (refl, none))
    where
      read : (name word : List ℕ) → entry_words d ≡ Some (name, word) → is_among name names ≡ false
          → HasFormOrCause inputs letters word → Outcome inputs letters names d
      read name word h new (inl (u, r)) = fits (record { name = name; form = u })
          (record { word = word; writes = h; read = r }) new
      read name word h new (inr (cause, r)) = fails (BadForm (length names) cause)
          (refl, record { name = name; word = word; writes = h; new = new; refused = r })

      writes : (p : List ℕ × List ℕ) → entry_words d ≡ Some p → Outcome inputs letters names d
      writes (name, word) h = by_test (is_among name names)
          (λ taken. fails (TwiceNamed (length names))
          (refl, record { name = name; word = word; writes = h; taken = taken }))
          (λ new. read name word h new (has_form inputs letters word))

  abbrev Goes : List Data → Type 0
  Goes ds = ((es : List LexicalEntry) × AreEntries inputs letters ds es) ⊎
      ((cause : LexErr) × IsFirstEntryFault inputs letters ds cause)

  goes_on : (front : List Data) (es : List LexicalEntry) (d : Data) (rest : List Data)
      → AreEntries inputs letters front es → Outcome inputs letters (names_of es) d
      → ((e : LexicalEntry) → AreEntries inputs letters (front ++ d ∷ []) (es ++ e ∷ [])
      → Goes ((front ++ d ∷ []) ++ rest)) → Goes (front ++ d ∷ rest)
  goes_on front es d rest a (fits e is new) next =
      subst (λ (ds : List Data). Goes ds) (append_assoc front (d ∷ []) rest)
      (next e (one_more inputs letters front es d e a is new))
  goes_on front es d rest a (fails cause f) next = inr
      (cause, record { front = front; element = d; rest = rest; split = refl; entries = es; are = a; fault = f })

  goes : (rest front : List Data) (es : List LexicalEntry) → AreEntries inputs letters front es → Goes (front ++ rest)
  goes [] front es a = inl (es, subst (λ (ds : List Data). AreEntries inputs letters ds es) (sym (append-nil front)) a)
  goes (d ∷ rest) front es a = goes_on front es d rest a (outcome_of (names_of es) d)
      (λ e b. goes rest (front ++ d ∷ []) (es ++ e ∷ []) b)

  -- elements are entries, or one of them is the first that is none
  pub entries_or_fault : (ds : List Data)
      → ((es : List LexicalEntry) × AreEntries inputs letters ds es) ⊎
      ((cause : LexErr) × IsFirstEntryFault inputs letters ds cause)
  entries_or_fault ds = goes ds [] [] (no_entries inputs letters)
