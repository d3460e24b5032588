-- Every prefix that reads well so far can be completed to a candidate.
use Rattle.std.proofs.Common.{◌≡◌, ℕ, zero, suc, ◌+◌, ◌<◌, ◌≤◌, Bool, true, false, cond, inl, inr, IsTrue, List, []}
use Rattle.std.proofs.Common.{◌∷◌, ◌++◌, map, take, length, get_or, Contains, refl, sym, ap, ◌∙◌, subst, ⊎_elim}
use Rattle.std.proofs.Common.{arith, append-nil, append_assoc, take_all, length-take, ◌-◌}
use Rattle.std.proofs.lemmas.List.{map-append, length-map, get_or-map, get_or_default, get_or_past, length_push}
use Rattle.std.proofs.lemmas.List.FromFn.{length-map-range_with_len, get_or-map-range_with_len}
use Rattle.std.proofs.lemmas.List.Elements.{All-from_recursion, recursion_from_All, All-from_get_or}
use Rattle.std.proofs.{lemmas.List.Folds.list_any_at, lemmas.Bool.{false≢true, cases_Bool, cases_lt, or_cases}}
use Rattle.std.specs.List.{AllByRecursion, list_any, range_with_len}
use Rattle.tier_core.specs.{declared.sym.Sym.Sym, declared.sym.Sym.TheVariants.{Outside, Inside, End}}
use Rattle.tier_core.specs.{Scan.{fits, opens}, Tiers.Tiers}
use Rattle.tier_core.specs.Timelines.{tier_word, symbol, column_at, is_edge, has_edge}
use Rattle.tier_core.proofs.{CountLemmas.{all_weaker, any_none}, WordLemmas.{runs, open_at}, WordCounts.runs_fits}
use Rattle.tier_core.proofs.WordForm.{runs_from_well_formed, well_formed_from_runs}
use Rattle.tier_core.proofs.FormLemmas.{edge_at, edge_of_part}
use Rattle.violation.specs.{Candidates.{IsForm, IsCandidate}, Conditions.AreSplit, Moves.input_of, Prefixes.is_open}
use Rattle.violation.specs.{Walks.BeginsCandidate, Problems.{Problem, last_place}}
use Rattle.violation.proofs.{ChoiceLemmas.all_map, OpenLemmas.{open_read, open_more, prefix_open, take_word}}
use Rattle.violation.proofs.OpenLemmas.{runs_closed, runs_from_reads, runs_reads}
use Rattle.violation.proofs.PrefixLemmas.{input_part, input_append, IsBegun, form_is, begun_more}
use Rattle.violation.proofs.TierLemmas.{map_agree, flag_in, flag_none, given, given_out, given_in}

open_some : (width : ℕ) (g : ℕ → Bool) (ts : List ℕ) → AllByRecursion (λ t. t < width) ts
    → list_any (λ flag. flag) (map g ts) ≡ true → (t : ℕ) × ((t < width) × (g t ≡ true))
open_some width g [] b h = absurd (false≢true h)
open_some width g (t ∷ ts) b h = ⊎_elim (λ e. (t, (b.0, e))) (λ r. open_some width g ts b.1 r) (or_cases (g t) _ h)

-- a tier that has no edge stays as it is
abbrev keeps : Bool → Sym
keeps b = cond b Inside Outside

abbrev closes : Bool → Sym
closes b = cond b End Outside

keeps_fits : (b : Bool) → fits b (keeps b) ≡ true
keeps_fits true = refl
keeps_fits false = refl

closes_fits : (b : Bool) → fits b (closes b) ≡ true
closes_fits true = refl
closes_fits false = refl

closes_none : (b : Bool) → opens (closes b) ≡ false
closes_none true = refl
closes_none false = refl

-- the column with these symbols
abbrev made : ℕ → (ℕ → Sym) → List Sym
made width f = map f (range_with_len 0 width)

made_at : (width : ℕ) (f : ℕ → Sym) (t : ℕ) → t < width → symbol (made width f) t ≡ f t
made_at width f t l = get_or-map-range_with_len f 0 width t t Outside l (omega arith)

made_part : (width : ℕ) (f : ℕ → Sym) (ts : List ℕ) → AllByRecursion (λ t. t < width) ts
    → map (symbol (made width f)) ts ≡ map f ts
made_part width f ts b = map_agree _ _ ts (all_weaker (λ t. t < width) _ ts (λ t l. made_at width f t l) b)

-- which tiers are open after one more column
pub open_after_more : (problem : Problem) (p : List (List Sym)) (column : List Sym)
    → IsBegun problem (p ++ column ∷ []) → (t : ℕ) → t < problem.tiers.width
    → is_open (tier_word (p ++ column ∷ []) t) ≡ opens (symbol column t)
open_after_more problem p column b t l =
    open_read false (tier_word (p ++ column ∷ []) t) (b.read t l)
    ∙ ap (λ w. open_at false w (length w)) (map-append (λ column. symbol column t) p (column ∷ []))
    ∙ open_more false (tier_word p t) (symbol column t)

module _ (problem : Problem) (split : AreSplit problem.tiers) (form : IsForm problem.tiers problem.form) where
  -- at the end of the form no input tier is open
  input_closed : (p : List (List Sym)) → IsBegun problem p → length (input_part problem.tiers p) ≡ last_place problem
      → (j : ℕ) → j < length problem.tiers.input
      → is_open (tier_word p (get_or problem.tiers.input j 0)) ≡ false
  input_closed p b e j l =
      let r : runs false (tier_word problem.form j)
      ≡ true = runs_from_well_formed (tier_word problem.form j) (form.well_formed.each_tier j l) in
      sym (form_is problem split form p b j l)
      ∙ ap (λ n. is_open (tier_word (take n problem.form) j)) e
      ∙ ap (λ q. is_open (tier_word q j)) (take_all (last_place problem) problem.form (omega arith))
      ∙ open_read false (tier_word problem.form j) (runs_reads false (tier_word problem.form j) r)
      ∙ runs_closed false (tier_word problem.form j) r

  contained_closed : (p : List (List Sym)) → IsBegun problem p
      → length (input_part problem.tiers p) ≡ last_place problem → (t : ℕ) → Contains problem.tiers.input t
      → is_open (tier_word p t) ≡ false
  contained_closed p b e t c =
      ap (λ t. is_open (tier_word p t)) (sym c.2 ∙ get_or_default problem.tiers.input c.0 t 0 c.1)
      ∙ input_closed p b e c.0 c.1

  -- a prefix that is at the end of the form, with no tier open, is a candidate
  pub ended_candidate : (p : List (List Sym)) → IsBegun problem p
      → length (input_part problem.tiers p) ≡ last_place problem
      → list_any (λ flag. flag) (map (λ t. is_open (tier_word p t)) problem.tiers.free) ≡ false → IsCandidate problem p
  ended_candidate p b e n = record {
    well_formed = record {
      one_width = b.one_width;
      each_tier = λ t l.
          well_formed_from_runs (tier_word p t)
          (runs_from_reads false (tier_word p t) (b.read t l)
          (sym (open_read false (tier_word p t) (b.read t l))
          ∙ ⊎_elim
          (λ c. contained_closed p b e t c)
          (λ c. sym (flag_in (λ t. is_open (tier_word p t)) problem.tiers.free t c)
          ∙ flag_none problem.tiers.free (map (λ t. is_open (tier_word p t)) problem.tiers.free) t n)
          (split.each t l)));
    };
    reduced = b.reduced;
    input = b.place ∙ ap (λ n. take n problem.form) e ∙ take_all (last_place problem) problem.form (omega arith);
  }

  -- the form's next column, where the other tiers stay as they are
  abbrev filling : List (List Sym) → ℕ → Sym
  filling p t = given problem.tiers.input (column_at problem.form (length (input_part problem.tiers p)))
      (keeps (is_open (tier_word p t))) t

  filled_part : (p : List (List Sym)) → length (input_part problem.tiers p) < last_place problem
      → input_of problem.tiers (made problem.tiers.width (filling p))
      ≡ column_at problem.form (length (input_part problem.tiers p))
  filled_part p l =
      made_part problem.tiers.width (filling p) problem.tiers.input split.inputs_below
      ∙ given_in problem.tiers.input (column_at problem.form (length (input_part problem.tiers p)))
      (λ t. keeps (is_open (tier_word p t))) split.distinct
      (sym (All-from_recursion (λ column. length column
      ≡ length problem.tiers.input) problem.form form.well_formed.one_width
      (length (input_part problem.tiers p)) [] l))

  filled_input : (p : List (List Sym)) → IsBegun problem p → length (input_part problem.tiers p) < last_place problem
      → (j : ℕ) → j < length problem.tiers.input
      → fits (is_open (tier_word p (get_or problem.tiers.input j 0))) (filling p (get_or problem.tiers.input j 0))
      ≡ true
  filled_input p b l j g =
      let place = length (input_part problem.tiers p) in
      let r : runs false (tier_word problem.form j)
      ≡ true = runs_from_well_formed (tier_word problem.form j) (form.well_formed.each_tier j g) in
      let was : is_open (tier_word p (get_or problem.tiers.input j 0))
      ≡ open_at false (tier_word problem.form j) place =
      sym (form_is problem split form p b j g) ∙ ap is_open (take_word problem.form place j)
      ∙ prefix_open (tier_word problem.form j) place r
      (omega (arith, length-map problem.form (λ column. symbol column j))) in
      let now : filling p (get_or problem.tiers.input j 0) ≡ get_or (tier_word problem.form j) place Outside =
      sym (get_or-map (filling p) problem.tiers.input j 0 Outside g)
      ∙ ap (λ (c : List Sym). get_or c j Outside)
      (sym (made_part problem.tiers.width (filling p) problem.tiers.input split.inputs_below) ∙ filled_part p l)
      ∙ sym (get_or-map (λ column. symbol column j) problem.form place [] Outside l) in
      ap (λ o. fits o (filling p (get_or problem.tiers.input j 0))) was
      ∙ ap (fits (open_at false (tier_word problem.form j) place)) now
      ∙ runs_fits false (tier_word problem.form j) place r

  filled_fits : (p : List (List Sym)) → IsBegun problem p → length (input_part problem.tiers p) < last_place problem
      → (t : ℕ) → t < problem.tiers.width → fits (is_open (tier_word p t)) (filling p t) ≡ true
  filled_fits p b l t g =
      ⊎_elim
      (λ c. subst (λ t. fits (is_open (tier_word p t)) (filling p t) ≡ true)
      (get_or_default problem.tiers.input c.0 0 t c.1 ∙ c.2) (filled_input p b l c.0 c.1))
      (λ d. ap (fits (is_open (tier_word p t)))
      (given_out problem.tiers.input (column_at problem.form (length (input_part problem.tiers p)))
      (keeps (is_open (tier_word p t))) t (λ c. split.apart t c d)) ∙ keeps_fits (is_open (tier_word p t)))
      (split.each t g)

  filled : (p : List (List Sym)) → IsBegun problem p → length (input_part problem.tiers p) < last_place problem
      → IsBegun problem (p ++ made problem.tiers.width (filling p) ∷ [])
  filled p b l =
      let part : input_of problem.tiers (made problem.tiers.width (filling p))
      ≡ column_at problem.form (length (input_part problem.tiers p)) = filled_part p l in
      begun_more problem split form p (made problem.tiers.width (filling p)) b
      (length-map-range_with_len (filling p) 0 problem.tiers.width)
      (λ t g. ap (fits (is_open (tier_word p t))) (made_at problem.tiers.width (filling p) t g) ∙ filled_fits p b l t g)
      (edge_of_part problem.tiers.input (made problem.tiers.width (filling p))
      (ap has_edge part ∙ All-from_recursion (λ column. IsTrue (has_edge column)) problem.form form.reduced
      (length (input_part problem.tiers p)) [] l))
      (inr (l, part))

  filled_place : (p : List (List Sym)) → length (input_part problem.tiers p) < last_place problem
      → length (input_part problem.tiers (p ++ made problem.tiers.width (filling p) ∷ []))
      ≡ length (input_part problem.tiers p) + 1
  filled_place p l =
      let edge : has_edge (input_of problem.tiers (made problem.tiers.width (filling p))) ≡ true =
      ap has_edge (filled_part p l) ∙ All-from_recursion
      (λ column. IsTrue (has_edge column)) problem.form form.reduced (length (input_part problem.tiers p)) [] l in
      ap length (input_append problem.tiers p (made problem.tiers.width (filling p) ∷ [])
      ∙ ap (λ c. input_part problem.tiers p
      ++ cond c (input_of problem.tiers (made problem.tiers.width (filling p)) ∷ []) []) edge)
      ∙ length_push (input_part problem.tiers p) (input_of problem.tiers (made problem.tiers.width (filling p)))

  -- at the end of the form, a column that closes what is open
  abbrev closing : List (List Sym) → ℕ → Sym
  closing p t = closes (is_open (tier_word p t))

  closing_part : (p : List (List Sym)) → IsBegun problem p → length (input_part problem.tiers p) ≡ last_place problem
      → has_edge (input_of problem.tiers (made problem.tiers.width (closing p))) ≡ false
  closing_part p b e =
      ap has_edge (made_part problem.tiers.width (closing p) problem.tiers.input split.inputs_below)
      ∙ any_none is_edge (map (closing p) problem.tiers.input)
      (all_map (λ s. is_edge s ≡ false) (closing p) problem.tiers.input
      (recursion_from_All (λ t. is_edge (closing p t) ≡ false) problem.tiers.input
      (All-from_get_or (λ t. is_edge (closing p t) ≡ false) problem.tiers.input 0
      (λ j l. ap (λ o. is_edge (closes o)) (input_closed p b e j l)))))

  closed_candidate : (p : List (List Sym)) → IsBegun problem p
      → length (input_part problem.tiers p) ≡ last_place problem
      → list_any (λ flag. flag) (map (λ t. is_open (tier_word p t)) problem.tiers.free) ≡ true
      → IsCandidate problem (p ++ made problem.tiers.width (closing p) ∷ [])
  closed_candidate p b e some =
      let column = made problem.tiers.width (closing p) in
      let none : has_edge (input_of problem.tiers column) ≡ false = closing_part p b e in
      let at = open_some problem.tiers.width (λ t. is_open (tier_word p t)) problem.tiers.free split.free_below some in
      let more : IsBegun problem (p ++ column ∷ []) =
      begun_more problem split form p column b
      (length-map-range_with_len (closing p) 0 problem.tiers.width)
      (λ t g. ap (fits (is_open (tier_word p t))) (made_at problem.tiers.width (closing p) t g)
      ∙ closes_fits (is_open (tier_word p t)))
      (edge_at column at.0 (ap is_edge (made_at problem.tiers.width (closing p) at.0 at.1.0)
      ∙ ap (λ o. is_edge (closes o)) at.1.1))
      (inl none) in
      ended_candidate (p ++ column ∷ []) more
      (ap length (input_append problem.tiers p (column ∷ [])
      ∙ ap (λ c. input_part problem.tiers p ++ cond c (input_of problem.tiers column ∷ []) []) none
      ∙ append-nil (input_part problem.tiers p)) ∙ e)
      (any_none (λ flag. flag) (map (λ t. is_open (tier_word (p ++ column ∷ []) t)) problem.tiers.free)
      (all_map (λ flag. flag ≡ false) (λ t. is_open (tier_word (p ++ column ∷ []) t)) problem.tiers.free
      (all_weaker (λ t. t < problem.tiers.width) _ problem.tiers.free
      (λ t l. open_after_more problem p column more t l ∙ ap opens (made_at problem.tiers.width (closing p) t l)
      ∙ closes_none (is_open (tier_word p t)))
      split.free_below)))

  complete : (m : ℕ) (p : List (List Sym)) → IsBegun problem p
      → length (input_part problem.tiers p) + m ≡ last_place problem → BeginsCandidate problem p
  complete zero p b e =
      ⊎_elim
      (λ some. (made problem.tiers.width (closing p) ∷ [], closed_candidate p b (omega arith) some))
      (λ none. ([], subst (IsCandidate problem) (sym (append-nil p)) (ended_candidate p b (omega arith) none)))
      (cases_Bool (list_any (λ flag. flag) (map (λ t. is_open (tier_word p t)) problem.tiers.free)))
  complete (suc m) p b e =
      let l : length (input_part problem.tiers p) < last_place problem = omega arith in
      let column = made problem.tiers.width (filling p) in
      let rest : BeginsCandidate problem (p ++ column ∷ []) = complete m (p ++ column ∷ []) (filled p b l)
      (omega (arith, filled_place p l)) in
      (column ∷ rest.0, subst (IsCandidate problem) (append_assoc p (column ∷ []) rest.0) rest.1)

  within_form : (p : List (List Sym)) → IsBegun problem p → length (input_part problem.tiers p) ≤ last_place problem
  within_form p b = omega (arith, ap length b.place, length-take (length (input_part problem.tiers p)) problem.form)

  -- a prefix that reads well so far is a prefix of a candidate
  pub completed : (p : List (List Sym)) → IsBegun problem p → BeginsCandidate problem p
  completed p b = complete (last_place problem - length (input_part problem.tiers p)) p b
      (omega (arith, within_form p b))
