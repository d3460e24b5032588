-- A text is a timeline's, or it has a cause, and never both.
use Rattle.std.proofs.Common.{◌≡◌, ◌≢◌, ◌⊎◌, inl, inr, ℕ, zero, suc, ◌<◌, ◌≤◌, true, false, List, [], ◌∷◌, length}
use Rattle.std.proofs.Common.{map, Option, Some, None, not, ◌==◌, codes, refl, ap, sym, ◌∙◌, subst, arith, nat_lt}
use Rattle.std.proofs.{lemmas.Bool.false≢true, lemmas.Bool.Decides.nat_tests, lemmas.List.length-map}
use Rattle.std.proofs.lemmas.Slice.Eq.{bytes_eq-Decides}
use Rattle.std.specs.{List.list_any, Str.bytes_eq}
use Rattle.tier_core.specs.{declared.sym.Sym.Sym, Symbols.byte_of, Words.IsWellFormedWord}
use Rattle.tier_core.specs.Timelines.{tier_word, has_edge, IsReduced, IsWellFormed}
use Rattle.tier_core.proofs.{WordLemmas.runs, WordForm.{runs_from_well_formed, well_formed_from_runs}}
use Rattle.timeline_text.specs.declared.form_err.FormErr.{FormErr}
use Rattle.timeline_text.specs.declared.form_err.FormErr.TheVariants.{BadSymbol, WrongWidth, TooLong, NotWellFormed}
use Rattle.timeline_text.specs.declared.form_err.FormErr.TheVariants.{NotReduced, UnknownLetter, NoMemory}
use Rattle.timeline_text.specs.{Texts.{text_of, IsTextOf}, Causes.{is_known, spaced_pieces, columns_of, bad_symbol}}
use Rattle.timeline_text.specs.Causes.{wrong_width, no_edge, IsFirstIllFormed, Comes, order, IsCause}
use Rattle.timeline_text.specs.Readings.{HasReading}
use Rattle.timeline_text.proofs.Searches.{by_test, by_option, none_any, any_none, none_some}
use Rattle.timeline_text.proofs.{Cuts.{cut_back, columns_back, no_word}, Forms.{text_back, length_columns}}
use Rattle.timeline_text.proofs.{Forms.{widths_from, reduced_from, reduced_any, widths_any}, Known.text_known}

pub not_the_word : (bytes : List ℕ) → bytes_eq bytes (codes "empty") ≡ false → bytes ≢ codes "empty"
not_the_word bytes h e = false≢true (sym h ∙ (bytes_eq-Decides bytes (codes "empty")).1 e)

pub the_word : (bytes : List ℕ) → bytes_eq bytes (codes "empty") ≡ true → bytes ≡ codes "empty"
the_word bytes h = (bytes_eq-Decides bytes (codes "empty")).0 h

-- causes that are tried before the n-th do not come
earlier : (width limit : ℕ) (bytes : List ℕ) (n : ℕ) → (0 < n → bad_symbol bytes ≡ None)
    → (1 < n → wrong_width width bytes ≡ None) → (2 < n → length (spaced_pieces bytes) ≤ limit)
    → (3 < n → (t : ℕ) → t < width → IsWellFormedWord (tier_word (columns_of bytes) t)) → n ≤ 4
    → (other : FormErr) → order other < n → Comes width limit bytes other → ⊥
earlier width limit bytes n a b c d l (BadSymbol at) o h = none_some (a o) h
earlier width limit bytes n a b c d l (WrongWidth column) o h = none_some (b o) h
earlier width limit bytes n a b c d l TooLong o h = let k = c o in omega arith
earlier width limit bytes n a b c d l (NotWellFormed tier) o h = h.broken (d o tier h.there)
earlier width limit bytes n a b c d l (NotReduced column) o h = omega arith
earlier width limit bytes n a b c d l (UnknownLetter at) o h = h
earlier width limit bytes n a b c d l NoMemory o h = h

module _ (width limit : ℕ) (bytes : List ℕ) (word_is_other : bytes ≢ codes "empty") where
  pub bad_symbol_is : (at : ℕ) → bad_symbol bytes ≡ Some at → IsCause width limit bytes (BadSymbol at)
  bad_symbol_is at h = record {
    other_word = word_is_other;
    comes = h;
    first = earlier width limit bytes 0 (λ l. absurd (omega arith)) (λ l. absurd (omega arith))
        (λ l. absurd (omega arith)) (λ l. absurd (omega arith)) (omega arith);
  }

  pub wrong_width_is : (column : ℕ) → bad_symbol bytes ≡ None → wrong_width width bytes ≡ Some column
      → IsCause width limit bytes (WrongWidth column)
  wrong_width_is column a h = record {
    other_word = word_is_other;
    comes = h;
    first = earlier width limit bytes 1 (λ l. a) (λ l. absurd (omega arith)) (λ l. absurd (omega arith))
        (λ l. absurd (omega arith)) (omega arith);
  }

  pub too_long_is : bad_symbol bytes ≡ None → wrong_width width bytes ≡ None → limit < length (spaced_pieces bytes)
      → IsCause width limit bytes TooLong
  too_long_is a b h = record {
    other_word = word_is_other;
    comes = h;
    first = earlier width limit bytes 2 (λ l. a) (λ l. b) (λ l. absurd (omega arith)) (λ l. absurd (omega arith))
        (omega arith);
  }

  pub not_well_formed_is : (tier : ℕ) → bad_symbol bytes ≡ None → wrong_width width bytes ≡ None
      → length (spaced_pieces bytes) ≤ limit
      → IsFirstIllFormed width (columns_of bytes) tier → IsCause width limit bytes (NotWellFormed tier)
  not_well_formed_is tier a b c h = record {
    other_word = word_is_other;
    comes = h;
    first = earlier width limit bytes 3 (λ l. a) (λ l. b) (λ l. c) (λ l. absurd (omega arith)) (omega arith);
  }

  pub not_reduced_is : (column : ℕ) → bad_symbol bytes ≡ None → wrong_width width bytes ≡ None
      → length (spaced_pieces bytes) ≤ limit
      → ((t : ℕ) → t < width → IsWellFormedWord (tier_word (columns_of bytes) t))
      → no_edge (columns_of bytes) ≡ Some column → IsCause width limit bytes (NotReduced column)
  not_reduced_is column a b c d h = record {
    other_word = word_is_other;
    comes = h;
    first = earlier width limit bytes 4 (λ l. a) (λ l. b) (λ l. c) (λ l. d) (omega arith);
  }

-- a text in which no cause comes is the text of its columns
pub no_cause : (width limit : ℕ) (bytes : List ℕ) → bad_symbol bytes ≡ None → wrong_width width bytes ≡ None
    → length (spaced_pieces bytes) ≤ limit
    → ((t : ℕ) → t < width → IsWellFormedWord (tier_word (columns_of bytes) t)) → no_edge (columns_of bytes) ≡ None
    → IsTextOf width limit bytes (columns_of bytes)
no_cause width limit bytes a b c d e = record {
  text = text_back bytes (none_any _ bytes a);
  form =
      record {
        one_width = widths_from width (spaced_pieces bytes)
            (none_any _ (spaced_pieces bytes) b);
        each_tier = d;
      };
  reduced = reduced_from (columns_of bytes) (none_any _ (columns_of bytes) e);
  within = let n = length_columns bytes in omega arith;
}

pub empty_text : (width limit : ℕ) (bytes : List ℕ) → bytes ≡ codes "empty" → IsTextOf width limit bytes []
empty_text width limit bytes e = record {
  text = e;
  form = record { one_width = tt; each_tier = λ t l. well_formed_from_runs [] refl };
  reduced = tt;
  within = omega arith;
}

-- the tiers below n are well formed, or one is the first that is not
tiers_below : (T : List (List Sym)) (n : ℕ)
    → ((t : ℕ) → t < n → IsWellFormedWord (tier_word T t)) ⊎ ((t : ℕ) × IsFirstIllFormed n T t)
tiers_below T zero = inl (λ t l. absurd (omega arith))
tiers_below T (suc n) = more (tiers_below T n)
  where
    later : (t : ℕ) → IsFirstIllFormed n T t → IsFirstIllFormed (suc n) T t
    later t f = record { there = let l = f.there in omega arith; broken = f.broken; before = f.before }

    up_to : ((t : ℕ) → t < n → IsWellFormedWord (tier_word T t)) → IsWellFormedWord (tier_word T n) → (t : ℕ)
        → t < suc n
        → IsWellFormedWord (tier_word T t)
    up_to all here t l = by_test (nat_lt t n) (λ e. all t (grind (arith, nat_tests)))
        (λ e. subst (λ (k : ℕ). IsWellFormedWord (tier_word T k))
        (let same : n ≡ t = grind (arith, nat_tests) in same) here)

    more : ((t : ℕ) → t < n → IsWellFormedWord (tier_word T t)) ⊎ ((t : ℕ) × IsFirstIllFormed n T t)
        → ((t : ℕ) → t < suc n → IsWellFormedWord (tier_word T t)) ⊎ ((t : ℕ) × IsFirstIllFormed (suc n) T t)
    more (inr (t, f)) = inr (t, later t f)
    more (inl all) = by_test (runs false (tier_word T n))
        (λ e. inl (up_to all (well_formed_from_runs (tier_word T n) e)))
        (λ e. inr (
          n,
          record {
            there = omega arith;
            broken = λ wf. false≢true (sym e ∙ runs_from_well_formed (tier_word T n) wf);
            before = all;
          },
        ))

pub has_reading : (width limit : ℕ) (bytes : List ℕ) → HasReading width limit bytes
has_reading width limit bytes = by_test (bytes_eq bytes (codes "empty"))
    (λ h. inl ([], empty_text width limit bytes (the_word bytes h))) (λ h. other (not_the_word bytes h))
  where
    tiers : bytes ≢ codes "empty" → bad_symbol bytes ≡ None → wrong_width width bytes ≡ None
        → length (spaced_pieces bytes) ≤ limit
        → ((t : ℕ) → t < width → IsWellFormedWord (tier_word (columns_of bytes) t)) ⊎
        ((t : ℕ) × IsFirstIllFormed width (columns_of bytes) t) → HasReading width limit bytes
    tiers o a b c (inr (tier, f)) = inr (NotWellFormed tier, not_well_formed_is width limit bytes o tier a b c f)
    tiers o a b c (inl d) = by_option (no_edge (columns_of bytes))
        (λ column h. inr (NotReduced column, not_reduced_is width limit bytes o column a b c d h))
        (λ e. inl (columns_of bytes, no_cause width limit bytes a b c d e))

    other : bytes ≢ codes "empty" → HasReading width limit bytes
    other o = by_option (bad_symbol bytes) (λ at h. inr (BadSymbol at, bad_symbol_is width limit bytes o at h))
        (λ a. by_option (wrong_width width bytes)
        (λ column h. inr (WrongWidth column, wrong_width_is width limit bytes o column a h))
        (λ b. by_test (nat_lt limit (length (spaced_pieces bytes)))
        (λ h. inr (TooLong, too_long_is width limit bytes o a b (grind (arith, nat_tests))))
        (λ h. let c : length (spaced_pieces bytes) ≤ limit = grind (arith, nat_tests) in tiers o a b c
        (tiers_below (columns_of bytes) width))))

same_text : (T U : List (List Sym)) → text_of T ≡ text_of U → T ≡ U
same_text [] [] e = refl
same_text [] (d ∷ U) e = absurd (not_the_word (text_of (d ∷ U)) (no_word d U) (sym e))
same_text (c ∷ T) [] e = absurd (not_the_word (text_of (c ∷ T)) (no_word c T) e)
same_text (c ∷ T) (d ∷ U) e = sym (columns_back c T) ∙ ap columns_of e ∙ columns_back d U

pub one_value : (width limit : ℕ) (bytes : List ℕ) (T U : List (List Sym)) → IsTextOf width limit bytes T
    → IsTextOf width limit bytes U → T ≡ U
one_value width limit bytes T U t u = same_text T U (sym t.text ∙ u.text)

-- in the text of a timeline no cause comes
none_comes : (width limit : ℕ) (column : List Sym) (T : List (List Sym)) → IsWellFormed width (column ∷ T)
    → IsReduced (column ∷ T) → length (column ∷ T) ≤ limit
    → (e : FormErr) → Comes width limit (text_of (column ∷ T)) e → ⊥
none_comes width limit column T form reduced within (BadSymbol at) h = none_some
    (any_none (λ b. not (is_known b)) (text_of (column ∷ T)) (text_known column T)) h
none_comes width limit column T form reduced within (WrongWidth k) h =
    none_some (any_none (λ piece. not (length piece == width)) (spaced_pieces (text_of (column ∷ T)))
    (ap (list_any (λ piece. not (length piece == width))) (cut_back column T)
    ∙ widths_any width (column ∷ T) form.one_width)) h
none_comes width limit column T form reduced within TooLong h =
    let n : length (spaced_pieces (text_of (column ∷ T))) ≡ length (column ∷ T) = ap length (cut_back column T)
    ∙ length-map (column ∷ T) (map byte_of) in omega arith
none_comes width limit column T form reduced within (NotWellFormed tier) h =
    h.broken (subst (λ (U : List (List Sym)). IsWellFormedWord (tier_word U tier)) (sym (columns_back column T))
    (form.each_tier tier h.there))
none_comes width limit column T form reduced within (NotReduced k) h =
    none_some (any_none (λ c. not (has_edge c)) (columns_of (text_of (column ∷ T)))
    (ap (list_any (λ c. not (has_edge c))) (columns_back column T) ∙ reduced_any (column ∷ T) reduced)) h
none_comes width limit column T form reduced within (UnknownLetter at) h = h
none_comes width limit column T form reduced within NoMemory h = h

pub not_both : (width limit : ℕ) (bytes : List ℕ) (T : List (List Sym)) (e : FormErr) → IsTextOf width limit bytes T
    → IsCause width limit bytes e → ⊥
not_both width limit bytes [] e t c = c.other_word t.text
not_both width limit bytes (column ∷ T) e t c =
    none_comes width limit column T t.form t.reduced t.within e
    (subst (λ (b : List ℕ). Comes width limit b e) t.text c.comes)

pub read_again : (width limit : ℕ) (T : List (List Sym)) → ((e : FormErr) → IsCause width limit (text_of T) e → ⊥)
    → IsTextOf width limit (text_of T) T
read_again width limit T h = from (has_reading width limit (text_of T))
  where
    from : HasReading width limit (text_of T) → IsTextOf width limit (text_of T) T
    from (inl (U, u)) = subst (IsTextOf width limit (text_of T)) (sym (same_text T U u.text)) u
    from (inr (e, c)) = absurd (h e c)
