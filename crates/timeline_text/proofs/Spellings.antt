-- A word of letters spells one form, or it has one cause, and never both.
use Rattle.std.proofs.Common.{◌≡◌, inl, inr, ℕ, suc, ◌+◌, ◌<◌, ◌≤◌, List, [], ◌∷◌, length, drop, get_or, Option}
use Rattle.std.proofs.Common.{Some, None, option_map, refl, ap, sym, ◌∙◌, arith, nat_lt}
use Rattle.std.proofs.{lemmas.Bool.Decides.nat_tests, lemmas.List.{ext_get_or, length-map}}
use Rattle.std.specs.List.{AllByRecursion}
use Rattle.tier_core.specs.{declared.sym.Sym.Sym, declared.sym.Sym.TheVariants.Outside, Words.drawn_symbol}
use Rattle.tier_core.specs.Timelines.{tier_word}
use Rattle.timeline_text.specs.{declared.letter.Letter.Letter, declared.form_err.FormErr.FormErr}
use Rattle.timeline_text.specs.declared.form_err.FormErr.TheVariants.{BadSymbol, WrongWidth, TooLong, NotWellFormed}
use Rattle.timeline_text.specs.declared.form_err.FormErr.TheVariants.{NotReduced, UnknownLetter, NoMemory}
use Rattle.timeline_text.specs.Spelling.{unknown_letter, sound_of, sounds_of, IsSpelledBy, IsSpellingCause}
use Rattle.timeline_text.specs.{Readings.HasSpelling, Between.columns_after}
use Rattle.timeline_text.proofs.{Searches.{by_test, by_option, none_some}, Spell.{spelled_by, spelled_nothing}}

pub has_spelling : (letters : List Letter) (inputs : ℕ) (bytes : List ℕ) → HasSpelling letters inputs bytes
has_spelling letters inputs bytes = by_option (unknown_letter letters (drop 1 bytes))
    (λ k h. inr (UnknownLetter (k + 1), ap (option_map (λ n. n + 1)) h))
    (λ known. by_test (nat_lt 63 (length (drop 1 bytes)))
    (λ h. inr (TooLong, (known, grind (arith, nat_tests))))
    (λ h. let few : length (drop 1 bytes) ≤ 63 = grind (arith, nat_tests) in
    by_test (nat_lt 0 (length (drop 1 bytes)))
    (λ some. let l : 0 < length (drop 1 bytes) = grind (arith, nat_tests) in inl
    (columns_after inputs 0 (sounds_of letters bytes), spelled_by letters inputs bytes known few l))
    (λ none. let l : length (drop 1 bytes) ≤ 0 = grind (arith, nat_tests) in inl
    ([], spelled_nothing letters inputs bytes (no_length (drop 1 bytes) l)))))
  where
    no_length : (xs : List ℕ) → length xs ≤ 0 → xs ≡ []
    no_length [] l = refl
    no_length (x ∷ xs) l = absurd (omega arith)

-- timelines of one width that have the same symbols
same_columns : (inputs : ℕ) (T U : List (List Sym)) → length T ≡ length U
    → AllByRecursion (λ column. length column ≡ inputs) T → AllByRecursion (λ column. length column ≡ inputs) U
    → ((t k : ℕ) → t < inputs → k < length T → get_or (tier_word T t) k Outside ≡ get_or (tier_word U t) k Outside) → T
    ≡ U
same_columns inputs [] [] n a b h = refl
same_columns inputs [] (d ∷ U) n a b h = absurd (omega arith)
same_columns inputs (c ∷ T) [] n a b h = absurd (omega arith)
same_columns inputs (c ∷ T) (d ∷ U) n a b h =
    let first : c ≡ d = ext_get_or Outside c d (a.0 ∙ sym b.0)
    (λ i l. h i 0 (let e = a.0 in omega arith) (omega arith)) in
    ap (λ x. x ∷ T) first ∙ ap (λ xs. d ∷ xs)
    (same_columns inputs T U (omega arith) a.1 b.1 (λ t k l m. h t (suc k) l (omega arith)))

pub one_form : (letters : List Letter) (inputs : ℕ) (bytes : List ℕ) (T U : List (List Sym))
    → IsSpelledBy letters inputs bytes T → IsSpelledBy letters inputs bytes U → T ≡ U
one_form letters inputs bytes T U t u = same_columns inputs T U n t.form.one_width u.form.one_width
    (λ i k l m.
    let p = length-map T (λ column. get_or column i Outside) in
    let q = length-map U (λ column. get_or column i Outside) in
    let e = t.form.each_tier i l in
    let f = u.form.each_tier i l in
    e.symbols k (omega arith) ∙ ap (λ cs. drawn_symbol cs k) (t.drawn i l ∙ sym (u.drawn i l))
    ∙ sym (f.symbols k (omega arith)))
  where
    n : length T ≡ length U
    n = t.size ∙ sym u.size

pub never_both : (letters : List Letter) (inputs : ℕ) (bytes : List ℕ) (T : List (List Sym)) (e : FormErr)
    → IsSpelledBy letters inputs bytes T → IsSpellingCause letters bytes e → ⊥
never_both letters inputs bytes T (UnknownLetter at) t h = none_some (ap (option_map (λ n. n + 1)) t.known) h
never_both letters inputs bytes T TooLong t h = let n = length-map (drop 1 bytes)
    (sound_of letters) in let f = t.few in let l = h.1 in omega arith
never_both letters inputs bytes T (BadSymbol at) t h = h
never_both letters inputs bytes T (WrongWidth column) t h = h
never_both letters inputs bytes T (NotWellFormed tier) t h = h
never_both letters inputs bytes T (NotReduced column) t h = h
never_both letters inputs bytes T NoMemory t h = h
