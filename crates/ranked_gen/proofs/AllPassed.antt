-- With no constraint, each pair of a place in the form and a set of open free tiers is the kind of a prefix.
use Rattle.std.proofs.Common.{◌≡◌, ℕ, zero, suc, ◌+◌, ◌<◌, ◌≤◌, ◌≢◌, ◌==◌, ◌⊎◌, Bool, true, false, List, [], ◌∷◌}
use Rattle.std.proofs.Common.{◌++◌, map, length, take, Contains, refl, sym, ap, ap₂, ◌∙◌, inl, inr, ⊎_elim}
use Rattle.std.proofs.Common.{append-nil, arith, cond, ne_eqb, eq-eqb}
use Rattle.std.proofs.lemmas.Bool.{false≢true, cases_lt, cond-true, cond-false, eq-eqb, ne_eqb, and_parts, and_from}
use Rattle.std.proofs.lemmas.List.{length-map, length-append, length-take-le, map-append, take-map, take-append-le}
use Rattle.std.proofs.lemmas.List.Elements.{All-from_recursion, recursion_from_All, All-take, All-contains_itself}
use Rattle.std.proofs.lemmas.List.Elements.{filter-append}
use Rattle.std.specs.List.{AllByRecursion, list_any}
use Rattle.tier_core.specs.{declared.sym.Sym.Sym, declared.sym.Sym.TheVariants.{Outside, Inside, Start, End}}
use Rattle.tier_core.specs.{Words.ends, Scan.{fits, opens}, Timelines.{symbol, tier_word, is_edge, has_edge, project}}
use Rattle.tier_core.specs.{Timelines.{squeeze, IsWellFormed, IsReduced}, Kinds.PrefixKind}
use Rattle.tier_core.proofs.{CountLemmas.{all_append, all_weaker}, WordLemmas.runs, WordForm.well_formed_from_runs}
use Rattle.tier_core.proofs.FormLemmas.{edge_at}
use Rattle.violation.specs.{Candidates.IsCandidate, Conditions.{AreDistinct, AreSplit}, Moves.flag_of}
use Rattle.violation.specs.{Prefixes.{is_open, kind_of}, Stages.IsPassed, Problems.{last_place, Problem}}
use Rattle.violation.proofs.{TierLemmas.map_agree, StageLemmas.all_optimal}
use Rattle.ranked_gen.specs.WideColumns.{wide_column}
use Rattle.ranked_gen.proofs.WidenedColumns.{over, all_mapped, on_nothing, not_listed, length_over, symbol_over}
use Rattle.ranked_gen.proofs.WidenedColumns.{word_flagged, word_outside, part_bare, over_runs, over_reduced}
use Rattle.ranked_gen.proofs.{WidenedColumns.squeeze_over, BareForm.{bare_form, bare_candidate}}

-- flags of tiers that stand once
flags_on : (xs : List ℕ) (flags : List Bool) → AreDistinct xs → length flags ≡ length xs
    → map (flag_of xs flags) xs ≡ flags
flags_on [] [] d e = refl
flags_on [] (s ∷ flags) d e = absurd (omega arith)
flags_on (x ∷ xs) [] d e = absurd (omega arith)
flags_on (x ∷ xs) (s ∷ flags) d e =
    ap (λ y. y ∷ map (flag_of (x ∷ xs) (s ∷ flags)) xs) (ap (λ b. cond b s (flag_of xs flags x)) (eq-eqb x x refl))
    ∙ ap (λ ys. s ∷ ys)
    (map_agree _ _ xs (all_weaker (λ t. x ≢ t) _ xs (λ t n. ap (λ b. cond b s (flag_of xs flags t)) (ne_eqb x t n)) d.0)
    ∙ flags_on xs flags d.1 (omega arith))

-- the form's columns between a start and an end on the tiers of the flags
abbrev pub marked : Problem → (ℕ → Bool) → List (List Sym)
marked problem flag = over problem.tiers flag Start [] ∷
    (map (over problem.tiers flag Inside) problem.form ++ over problem.tiers flag End [] ∷ [])

-- a flag is set below n, or none is
any_below : (flag : ℕ → Bool) (n : ℕ) → ((t : ℕ) × (t < n) × (flag t ≡ true)) ⊎ ((t : ℕ) → t < n → flag t ≡ false)
any_below flag zero = inr (λ t l. absurd (omega arith))
any_below flag (suc n) = by_test (flag n) refl (any_below flag n)
  where
    by_test : (b : Bool) → flag n ≡ b → ((t : ℕ) × (t < n) × (flag t ≡ true)) ⊎ ((t : ℕ) → t < n → flag t ≡ false)
        → ((t : ℕ) × (t < suc n) × (flag t ≡ true)) ⊎ ((t : ℕ) → t < suc n → flag t ≡ false)
    by_test true e rest = inl (n, omega arith, e)
    by_test false e rest = ⊎_elim
        (λ a. inl (a.0, omega arith, a.2))
        (λ a. inr (λ t l. ⊎_elim (λ below. a t below) (λ above. let same : t ≡ n = omega arith in ap flag same ∙ e)
        (cases_lt t n)))
        rest

flag_none : (xs : List ℕ) (flags : List Bool) (t : ℕ) → AllByRecursion (λ x. x ≢ t) xs → flag_of xs flags t ≡ false
flag_none [] flags t h = refl
flag_none (x ∷ xs) [] t h = refl
flag_none (x ∷ xs) (b ∷ flags) t h = cond-false (x == t) b (flag_of xs flags t) (ne_eqb x t h.0)
    ∙ flag_none xs flags t h.1

all_taken : {X : Type 0} (P : X → Type 0) (n : ℕ) (xs : List X) → AllByRecursion P xs → AllByRecursion P (take n xs)
all_taken P n xs h = recursion_from_All P (take n xs) (All-take P n xs (All-from_recursion P xs h))

runs_inside : (u : List (List Sym)) → runs true (map (λ c. Inside) u ++ End ∷ []) ≡ true
runs_inside [] = refl
runs_inside (c ∷ u) = runs_inside u

runs_closed : (b : Bool) (w : List Sym) → runs b w ≡ true → runs b (w ++ Outside ∷ []) ≡ true
runs_closed true [] h = absurd (false≢true h)
runs_closed false [] h = refl
runs_closed b (s ∷ w) h =
    let parts : (fits b s ≡ true) × (runs (opens s) w ≡ true) = and_parts (fits b s) (runs (opens s) w) h in
    and_from (fits b s) (runs (opens s) (w ++ Outside ∷ [])) parts.0 (runs_closed (opens s) w parts.1)

no_end : (u : List (List Sym)) → list_any ends (map (λ c. Inside) u) ≡ false
no_end [] = refl
no_end (c ∷ u) = no_end u

closed_outside : (u : List (List Sym)) → is_open (map (λ c. Outside) u) ≡ false
closed_outside [] = refl
closed_outside (c ∷ u) = closed_outside u

module _ (problem : Problem) (split : AreSplit problem.tiers) (flag : ℕ → Bool)
    (off : (t : ℕ) → Contains problem.tiers.input t → flag t ≡ false) where
  first_symbol : (s : Sym) (t : ℕ) → t < problem.tiers.width → flag t ≡ true
      → symbol (over problem.tiers flag s []) t ≡ s
  first_symbol s t l h = symbol_over problem.tiers flag s [] t l ∙ cond-true (flag t) s _ h

  other_symbol : (s : Sym) (t : ℕ) → t < problem.tiers.width → flag t ≡ false
      → symbol (over problem.tiers flag s []) t ≡ Outside
  other_symbol s t l h = symbol_over problem.tiers flag s [] t l ∙ cond-false (flag t) s _ h
      ∙ on_nothing problem.tiers.input t

  marked_word : (t : ℕ)
      → tier_word (marked problem flag) t ≡ symbol (over problem.tiers flag Start []) t ∷
      (tier_word (map (over problem.tiers flag Inside) problem.form) t
      ++ symbol (over problem.tiers flag End []) t ∷ [])
  marked_word t = ap (λ w. symbol (over problem.tiers flag Start []) t ∷ w)
      (map-append (λ column. symbol column t) (map (over problem.tiers flag Inside) problem.form)
      (over problem.tiers flag End [] ∷ []))

  marked_runs : (t : ℕ) → IsWellFormed (length problem.tiers.input) problem.form → t < problem.tiers.width
      → runs false (tier_word (marked problem flag) t) ≡ true
  marked_runs t wf l = ap (runs false) (marked_word t) ∙ by_test (flag t) refl
    where
      by_test : (b : Bool) → flag t ≡ b
          → runs false (symbol (over problem.tiers flag Start []) t ∷
          (tier_word (map (over problem.tiers flag Inside) problem.form) t
          ++ symbol (over problem.tiers flag End []) t ∷ [])) ≡ true
      by_test true h = rw (
        first_symbol Start t l h,
        first_symbol End t l h,
        word_flagged problem.tiers flag Inside problem.form t l h,
      ) (runs_inside problem.form)
      by_test false h = rw (other_symbol Start t l h, other_symbol End t l h)
          (runs_closed false (tier_word (map (over problem.tiers flag Inside) problem.form) t)
          (over_runs problem.tiers flag Inside split off problem.form t wf l h))

  marked_input : AllByRecursion (λ column. length column ≡ length problem.tiers.input) problem.form
      → IsReduced problem.form → squeeze (project problem.tiers.input (marked problem flag)) ≡ problem.form
  marked_input a r =
      let inner : List (List Sym) = map (over problem.tiers flag Inside) problem.form in
      let last : List (List Sym) = over problem.tiers flag End [] ∷ [] in
      cond-false (has_edge (map (symbol (over problem.tiers flag Start [])) problem.tiers.input)) _ _
      (part_bare problem.tiers flag Start split off)
      ∙ ap squeeze (map-append (λ column. map (symbol column) problem.tiers.input) inner last)
      ∙ filter-append has_edge (project problem.tiers.input inner) (project problem.tiers.input last)
      ∙ ap (λ v. squeeze (project problem.tiers.input inner) ++ v)
      (cond-false (has_edge (map (symbol (over problem.tiers flag End [])) problem.tiers.input)) _ _
      (part_bare problem.tiers flag End split off))
      ∙ append-nil (squeeze (project problem.tiers.input inner))
      ∙ squeeze_over problem.tiers flag Inside split off problem.form a r

  -- With a flag that is set, the marked form is a candidate.
  pub marked_candidate : (t : ℕ) → IsWellFormed (length problem.tiers.input) problem.form → IsReduced problem.form
      → t < problem.tiers.width → flag t ≡ true → IsCandidate problem (marked problem flag)
  marked_candidate t wf r l h = record {
    well_formed = record {
      one_width = (
        length_over problem.tiers flag Start [],
        all_append _ (map (over problem.tiers flag Inside) problem.form) (over problem.tiers flag End [] ∷ [])
            (all_mapped _ (over problem.tiers flag Inside) problem.form (length_over problem.tiers flag Inside))
            (length_over problem.tiers flag End [], tt),
      );
      each_tier = λ x g. well_formed_from_runs (tier_word (marked problem flag) x) (marked_runs x wf g);
    };
    reduced = (
      edge_at (over problem.tiers flag Start []) t (ap is_edge (first_symbol Start t l h)),
      all_append _ (map (over problem.tiers flag Inside) problem.form) (over problem.tiers flag End [] ∷ [])
          (over_reduced problem.tiers flag Inside split off problem.form wf.one_width r)
          (edge_at (over problem.tiers flag End []) t (ap is_edge (first_symbol End t l h)), tt),
    );
    input = marked_input wf.one_width r;
  }

  -- the free tiers that are open after the first columns of the marked form are those of the flags
  marked_open : (v : List (List Sym)) (t : ℕ) → Contains problem.tiers.free t → t < problem.tiers.width
      → is_open (tier_word (over problem.tiers flag Start [] ∷ map (over problem.tiers flag Inside) v) t) ≡ flag t
  marked_open v t f l = by_test (flag t) refl
    where
      by_test : (b : Bool) → flag t ≡ b → is_open
          (tier_word (over problem.tiers flag Start [] ∷ map (over problem.tiers flag Inside) v) t) ≡ flag t
      by_test true h = rw (first_symbol Start t l h, word_flagged problem.tiers flag Inside v t l h, no_end v) (sym h)
      by_test false h = rw (
        other_symbol Start t l h,
        word_outside problem.tiers flag Inside v t l h (λ i. split.apart t i f),
      ) (closed_outside v ∙ sym h)

  bare_open : (v : List (List Sym)) (t : ℕ) → Contains problem.tiers.free t → t < problem.tiers.width → flag t ≡ false
      → is_open (tier_word (bare_form problem.tiers v) t) ≡ flag t
  bare_open v t f l h = ap is_open (word_outside problem.tiers (λ t. false) Outside v t l refl
      (λ i. split.apart t i f)) ∙ closed_outside v ∙ sym h

  -- what holds at each free tier
  at_free : (f : ℕ → Bool) → ((t : ℕ) → Contains problem.tiers.free t → t < problem.tiers.width → f t ≡ flag t)
      → map f problem.tiers.free ≡ map flag problem.tiers.free
  at_free f h =
      map_agree f flag problem.tiers.free
      (all_both problem.tiers.free (recursion_from_All (Contains problem.tiers.free) problem.tiers.free
      (All-contains_itself problem.tiers.free)) split.free_below)
    where
      all_both : (xs : List ℕ) → AllByRecursion (Contains problem.tiers.free) xs
          → AllByRecursion (λ t. t < problem.tiers.width) xs → AllByRecursion (λ t. f t ≡ flag t) xs
      all_both [] a b = tt
      all_both (x ∷ xs) a b = (h x a.0 b.0, all_both xs a.1 b.1)

module _ (problem : Problem) (split : AreSplit problem.tiers) (once : AreDistinct problem.tiers.free)
    (wf : IsWellFormed (length problem.tiers.input) problem.form) (reduced : IsReduced problem.form) (place : ℕ)
    (opened : List Bool) (within : place ≤ last_place problem)
    (flags : length opened ≡ length problem.tiers.free) where
  off : (t : ℕ) → Contains problem.tiers.input t → flag_of problem.tiers.free opened t ≡ false
  off t i = flag_none problem.tiers.free opened t (not_listed problem.tiers.free t (λ f. split.apart t i f))

  fits_kind : (p : List (List Sym)) → length (squeeze (project problem.tiers.input p)) ≡ place
      → ((t : ℕ) → Contains problem.tiers.free t → t < problem.tiers.width
      → is_open (tier_word p t) ≡ flag_of problem.tiers.free opened t)
      → kind_of problem 0 p ≡ record { place = place; opened = opened; phases = [] }
  fits_kind p a b =
      let same : map (λ t. is_open (tier_word p t)) problem.tiers.free
      ≡ opened = at_free problem split (flag_of problem.tiers.free opened) off (λ t. is_open (tier_word p t)) b
      ∙ flags_on problem.tiers.free opened once flags in
      let kind : ℕ → List Bool → PrefixKind = λ n bs. record { place = n; opened = bs; phases = [] } in
      ap₂ kind a same

  -- the form's first columns are as many as the place, and each has an edge
  taken : length (take place problem.form) ≡ place
  taken = length-take-le place problem.form within

  wide : AllByRecursion (λ column. length column ≡ length problem.tiers.input) (take place problem.form)
  wide = all_taken _ place problem.form wf.one_width

  edged : IsReduced (take place problem.form)
  edged = all_taken _ place problem.form reduced

  with_flag : (t : ℕ) → t < problem.tiers.width → flag_of problem.tiers.free opened t ≡ true
      → IsPassed problem 0 0 (record { place = place; opened = opened; phases = [] })
  with_flag t l h =
      let flag : ℕ → Bool = flag_of problem.tiers.free opened in
      let inner : List (List Sym) = map (over problem.tiers flag Inside) problem.form in
      let prefix : List (List Sym) = over problem.tiers flag Start [] ∷ map (over problem.tiers flag Inside)
      (take place problem.form) in
      let long : length inner ≡ last_place problem = length-map problem.form (over problem.tiers flag Inside) in
      let joined : length (inner ++ over problem.tiers flag End [] ∷ [])
      ≡ length inner + 1 = length-append inner (over problem.tiers flag End [] ∷ []) in
      let cut : take (suc place) (marked problem flag) ≡ prefix =
      ap (λ v. over problem.tiers flag Start [] ∷ v)
      (take-append-le place inner (over problem.tiers flag End [] ∷ []) (omega arith)
      ∙ take-map (over problem.tiers flag Inside) place problem.form) in
      record {
        candidate = marked problem flag;
        columns = suc place;
        passes = record {
          optimal = all_optimal problem (marked problem flag)
              (marked_candidate problem split flag off t wf reduced l h);
          within = omega arith;
          of_kind = ap (kind_of problem 0) cut
              ∙ fits_kind prefix
              (ap length (cond-false (has_edge
              (map (symbol (over problem.tiers flag Start [])) problem.tiers.input)) _ _
              (part_bare problem.tiers flag Start split off)
              ∙ squeeze_over problem.tiers flag Inside split off (take place problem.form) wide edged) ∙ taken)
              (marked_open problem split flag off (take place problem.form));
        };
      }

  with_none : ((t : ℕ) → t < problem.tiers.width → flag_of problem.tiers.free opened t ≡ false)
      → IsPassed problem 0 0 (record { place = place; opened = opened; phases = [] })
  with_none h =
      let long : length (bare_form problem.tiers problem.form)
      ≡ last_place problem = length-map problem.form (wide_column problem.tiers) in
      record {
        candidate = bare_form problem.tiers problem.form;
        columns = place;
        passes = record {
          optimal = all_optimal problem (bare_form problem.tiers problem.form)
              (bare_candidate problem split wf reduced);
          within = omega arith;
          of_kind = ap (kind_of problem 0) (take-map (wide_column problem.tiers) place problem.form)
              ∙ fits_kind (bare_form problem.tiers (take place problem.form))
              (ap length (squeeze_over problem.tiers (λ t. false) Outside split (λ t c. refl)
              (take place problem.form) wide edged) ∙ taken)
              (λ t f l. bare_open problem split (flag_of problem.tiers.free opened) off
              (take place problem.form) t f l (h t l));
        };
      }

  -- Each kind without phases is passed.
  pub all_passed : IsPassed problem 0 0 (record { place = place; opened = opened; phases = [] })
  all_passed = ⊎_elim (λ a. with_flag a.0 a.1 a.2) with_none
      (any_below (flag_of problem.tiers.free opened) problem.tiers.width)
