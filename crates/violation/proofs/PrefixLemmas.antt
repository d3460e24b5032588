-- Prefixes of candidates, one column at a time.
use Rattle.std.proofs.Common.{◌≡◌, ℕ, ◌+◌, ◌<◌, Bool, true, false, ◌||◌, cond, ◌⊎◌, inl, inr, IsTrue, List, [], ◌∷◌}
use Rattle.std.proofs.Common.{◌++◌, map, take, length, get_or, refl, sym, ap, ◌∙◌, ⊎_elim}
use Rattle.std.proofs.lemmas.List.{map-append, length-map, append-nil, take_more, length_push, get_or-map}
use Rattle.std.proofs.{lemmas.List.FromFn.fill_by_all, lemmas.List.Elements.{filter-append, All-from_recursion}}
use Rattle.std.proofs.lemmas.Bool.{false≢true, and_from}
use Rattle.std.specs.List.{AllByRecursion}
use Rattle.tier_core.specs.{declared.sym.Sym.Sym, declared.constraint.Constraint.Constraint, Scan.fits, Tiers.Tiers}
use Rattle.tier_core.specs.Timelines.{tier_word, symbol, column_at, has_edge, project, squeeze, IsReduced}
use Rattle.tier_core.proofs.{CountLemmas.all_append, WordLemmas.open_at, WordForm.runs_from_well_formed}
use Rattle.violation.specs.{Candidates.IsForm, Conditions.AreSplit}
use Rattle.violation.specs.{Moves.{flag_of, form_opened, is_tier_open, input_of}, Prefixes.{is_open, kind_of}}
use Rattle.violation.specs.Problems.{Problem, last_place}
use Rattle.violation.proofs.OpenLemmas.{reads, reads_append, reads_take, open_read, take_word}
use Rattle.violation.proofs.{PlaceLemmas.input_open, TierLemmas.{flag_in, flag_out}}

-- the squeezed input part
abbrev pub input_part : Tiers → List (List Sym) → List (List Sym)
input_part tiers p = squeeze (project tiers.input p)

pub input_append : (tiers : Tiers) (T U : List (List Sym))
    → input_part tiers (T ++ U) ≡ input_part tiers T ++ input_part tiers U
input_append tiers T U =
    ap squeeze (map-append (λ column. map (symbol column) tiers.input) T U)
    ∙ filter-append has_edge (project tiers.input T) (project tiers.input U)

-- p reads well so far over the tiers, and its squeezed input part begins u
pub record IsBegun (problem : Problem) (p : List (List Sym)) : Type 0 where
  pub one_width : AllByRecursion (λ column. length column ≡ problem.tiers.width) p
  pub read : (t : ℕ) → t < problem.tiers.width → reads false (tier_word p t) ≡ true
  pub reduced : IsReduced p
  pub place : input_part problem.tiers p ≡ take (length (input_part problem.tiers p)) problem.form

pub nothing_begun : (problem : Problem) → IsBegun problem []
nothing_begun problem = record {
  one_width = tt;
  read = λ t l. refl;
  reduced = tt;
  place = refl;
}

module _ (problem : Problem) (split : AreSplit problem.tiers) (form : IsForm problem.tiers problem.form) where
  input_below : (j : ℕ) → j < length problem.tiers.input → get_or problem.tiers.input j 0 < problem.tiers.width
  input_below j l = All-from_recursion (λ t. t < problem.tiers.width) problem.tiers.input split.inputs_below j 0 l

  -- which tiers are open after the first columns of the form
  pub form_is : (p : List (List Sym)) → IsBegun problem p → (j : ℕ) → j < length problem.tiers.input
      → is_open (tier_word (take (length (input_part problem.tiers p)) problem.form) j)
      ≡ is_open (tier_word p (get_or problem.tiers.input j 0))
  form_is p b j l =
      let t = get_or problem.tiers.input j 0 in
      let place = length (input_part problem.tiers p) in
      let part : reads false (tier_word (take place problem.form) j) ≡ true =
      ap (reads false) (take_word problem.form place j)
      ∙ reads_take false (tier_word problem.form j) place
      (runs_from_well_formed (tier_word problem.form j) (form.well_formed.each_tier j l)) in
      ap (λ q. is_open (tier_word q j)) (sym b.place)
      ∙ open_read false (tier_word (input_part problem.tiers p) j)
      (ap (λ q. reads false (tier_word q j)) b.place ∙ part)
      ∙ ap (open_at false (tier_word (input_part problem.tiers p) j))
      (length-map (input_part problem.tiers p) (λ column. symbol column j))
      ∙ input_open problem.tiers.input j l false p (b.read t (input_below j l))
      ∙ sym (ap (open_at false (tier_word p t)) (length-map p (λ column. symbol column t)))
      ∙ sym (open_read false (tier_word p t) (b.read t (input_below j l)))

  form_opened_is : (p : List (List Sym)) → IsBegun problem p
      → form_opened problem.tiers problem.form (length (input_part problem.tiers p))
      ≡ map (λ t. is_open (tier_word p t)) problem.tiers.input
  form_opened_is p b =
      sym (fill_by_all (λ j. is_open (tier_word (take (length (input_part problem.tiers p)) problem.form) j))
      (map (λ t. is_open (tier_word p t)) problem.tiers.input) (length problem.tiers.input) false
      (length-map problem.tiers.input (λ t. is_open (tier_word p t)))
      (λ j l. get_or-map (λ t. is_open (tier_word p t)) problem.tiers.input j 0 false l ∙ sym (form_is p b j l)))

  -- the kind of a prefix tells which tiers are open
  pub tier_open_is : (r : ℕ) (p : List (List Sym)) → IsBegun problem p → (t : ℕ) → t < problem.tiers.width
      → is_tier_open problem (kind_of problem r p) t ≡ is_open (tier_word p t)
  tier_open_is r p b t l =
      ap (λ flags. flag_of problem.tiers.input flags t || flag_of problem.tiers.free
      (map (λ t. is_open (tier_word p t)) problem.tiers.free) t) (form_opened_is p b)
      ∙ ⊎_elim
      (λ c. rw (
        flag_in (λ t. is_open (tier_word p t)) problem.tiers.input t c,
        flag_out problem.tiers.free (map (λ t. is_open (tier_word p t)) problem.tiers.free) t (λ d. split.apart t c d),
      )
      (or_none (is_open (tier_word p t))))
      (λ d. rw (
        flag_in (λ t. is_open (tier_word p t)) problem.tiers.free t d,
        flag_out problem.tiers.input (map (λ t. is_open (tier_word p t)) problem.tiers.input) t
            (λ c. split.apart t c d),
      ) refl)
      (split.each t l)
    where
      or_none : (b : Bool) → (b || false) ≡ b
      or_none true = refl
      or_none false = refl

  -- one column more, where its symbols fit
  pub begun_more : (p : List (List Sym)) (column : List Sym) → IsBegun problem p
      → length column ≡ problem.tiers.width
      → ((t : ℕ) → t < problem.tiers.width → fits (is_open (tier_word p t)) (symbol column t) ≡ true)
      → IsTrue (has_edge column)
      → (has_edge (input_of problem.tiers column) ≡ false) ⊎
      ((length (input_part problem.tiers p) < last_place problem) ×
      (input_of problem.tiers column ≡ column_at problem.form (length (input_part problem.tiers p))))
      → IsBegun problem (p ++ column ∷ [])
  begun_more p column b width symbols edge input = record {
    one_width = all_append _ p (column ∷ []) b.one_width (width, tt);
    read = λ t l.
        ap (reads false) (map-append (λ column. symbol column t) p (column ∷ []))
        ∙ reads_append false (tier_word p t) (symbol column t ∷ [])
        ∙ and_from _ _ (b.read t l) (and_from _ _
        (ap (λ o. fits o (symbol column t)) (sym (open_read false (tier_word p t) (b.read t l))) ∙ symbols t l) refl);
    reduced = all_append _ p (column ∷ []) b.reduced (edge, tt);
    place = by_edge (has_edge (input_of problem.tiers column)) refl input;
  }
    where
      by_edge : (e : Bool) → has_edge (input_of problem.tiers column) ≡ e
          → (has_edge (input_of problem.tiers column) ≡ false) ⊎
          ((length (input_part problem.tiers p) < last_place problem) ×
          (input_of problem.tiers column ≡ column_at problem.form (length (input_part problem.tiers p))))
          → input_part problem.tiers (p ++ column ∷ [])
          ≡ take (length (input_part problem.tiers (p ++ column ∷ []))) problem.form
      by_edge false e i =
          let same : input_part problem.tiers (p ++ column ∷ []) ≡ input_part problem.tiers p =
          input_append problem.tiers p (column ∷ [])
          ∙ ap (λ c. input_part problem.tiers p ++ cond c (input_of problem.tiers column ∷ []) []) e
          ∙ append-nil (input_part problem.tiers p) in
          same ∙ b.place ∙ ap (λ q. take (length q) problem.form) (sym same)
      by_edge true e (inl f) = absurd (false≢true (sym f ∙ e))
      by_edge true e (inr i) =
          let more : input_part problem.tiers (p ++ column ∷ []) ≡ input_part problem.tiers p
          ++ input_of problem.tiers column ∷ [] =
          input_append problem.tiers p (column ∷ [])
          ∙ ap (λ c. input_part problem.tiers p ++ cond c (input_of problem.tiers column ∷ []) []) e in
          let size : length (input_part problem.tiers (p ++ column ∷ []))
          ≡ length (input_part problem.tiers p) + 1 = ap length more
          ∙ length_push (input_part problem.tiers p) (input_of problem.tiers column) in
          more
          ∙ ap (λ c. input_part problem.tiers p ++ c ∷ []) i.1
          ∙ ap (λ q. q ++ column_at problem.form (length (input_part problem.tiers p)) ∷ []) b.place
          ∙ sym (take_more problem.form (length (input_part problem.tiers p)) [] i.0)
          ∙ ap (λ n. take n problem.form) (sym size)
