-- Columns of a form widened to all tiers, with one symbol on the tiers of some flags.
use Rattle.std.proofs.Common.{◌≡◌, ℕ, zero, suc, ◌<◌, ◌≢◌, ◌==◌, Bool, true, false, cond, List, [], ◌∷◌, map}
use Rattle.std.proofs.Common.{length, get_or, filter, Contains, IsTrue, refl, sym, ap, ◌∙◌, ⊎_elim, ext_get_or}
use Rattle.std.proofs.{Common.arith, lemmas.Bool.{eq-eqb, ne_eqb, cond-true, cond-false}}
use Rattle.std.proofs.lemmas.List.{get_or_default, get_or-map, length-map}
use Rattle.std.proofs.lemmas.List.Elements.{All-from_recursion, recursion_from_All, All-get_or, All-from_get_or}
use Rattle.std.proofs.lemmas.List.FromFn.{length-map-range_with_len, get_or-map-range_with_len}
use Rattle.std.proofs.lemmas.List.Folds.{list_any_none}
use Rattle.std.specs.List.{AllByRecursion, range_with_len}
use Rattle.tier_core.specs.{declared.sym.Sym.Sym, declared.sym.Sym.TheVariants.Outside, Timelines.{symbol, tier_word}}
use Rattle.tier_core.specs.{Timelines.{is_edge, has_edge, project, squeeze, IsWellFormed, IsReduced}, Tiers.Tiers}
use Rattle.tier_core.proofs.{WordLemmas.runs, WordForm.runs_from_well_formed, FormLemmas.edge_of_part}
use Rattle.violation.specs.Conditions.{AreDistinct, AreSplit}
use Rattle.ranked_gen.specs.WideColumns.{symbol_on}

-- one symbol on the tiers of the flags, and a column of the form on the input tiers elsewhere
abbrev pub over : Tiers → (ℕ → Bool) → Sym → List Sym → List Sym
over tiers flag s column = map (λ t. cond (flag t) s (symbol_on tiers.input column t)) (range_with_len 0 tiers.width)

pub all_at : {X : Type 0} (P : X → Type 0) (xs : List X) (i : ℕ) (d : X) → i < length xs → AllByRecursion P xs
    → P (get_or xs i d)
all_at P xs i d l h = All-get_or P xs i d l (All-from_recursion P xs h)

pub all_mapped : {X Y : Type 0} (P : Y → Type 0) (f : X → Y) (xs : List X) → ((x : X) → P (f x))
    → AllByRecursion P (map f xs)
all_mapped P f [] h = tt
all_mapped P f (x ∷ xs) h = (h x, all_mapped P f xs h)

pub filter_every : {X : Type 0} (p : X → Bool) (xs : List X) → AllByRecursion (λ x. IsTrue (p x)) xs → filter p xs ≡ xs
filter_every p [] h = refl
filter_every p (x ∷ xs) h = cond-true (p x) (x ∷ filter p xs) (filter p xs) h.0
    ∙ ap (λ ys. x ∷ ys) (filter_every p xs h.1)

runs_outside : (u : List (List Sym)) → runs false (map (λ c. Outside) u) ≡ true
runs_outside [] = refl
runs_outside (c ∷ u) = runs_outside u

pub on_nothing : (xs : List ℕ) (t : ℕ) → symbol_on xs [] t ≡ Outside
on_nothing [] t = refl
on_nothing (x ∷ xs) t = refl

-- each tier of a list has its symbol of the column
pub symbol_on_at : (xs : List ℕ) (column : List Sym) (j : ℕ) → AreDistinct xs → j < length xs
    → symbol_on xs column (get_or xs j 0) ≡ symbol column j
symbol_on_at [] column j d l = absurd (omega arith)
symbol_on_at (x ∷ xs) [] j d l = refl
symbol_on_at (x ∷ xs) (s ∷ ss) zero d l = cond-true (x == x) s (symbol_on xs ss x) (eq-eqb x x refl)
symbol_on_at (x ∷ xs) (s ∷ ss) (suc j) d l =
    cond-false (x == get_or xs j 0) s (symbol_on xs ss (get_or xs j 0))
    (ne_eqb x (get_or xs j 0) (all_at (λ y. x ≢ y) xs j 0 (omega arith) d.0))
    ∙ symbol_on_at xs ss j d.1 (omega arith)

-- a tier that is not listed has nothing
pub symbol_on_none : (xs : List ℕ) (column : List Sym) (t : ℕ) → AllByRecursion (λ x. x ≢ t) xs
    → symbol_on xs column t ≡ Outside
symbol_on_none [] column t h = refl
symbol_on_none (x ∷ xs) [] t h = refl
symbol_on_none (x ∷ xs) (s ∷ ss) t h = cond-false (x == t) s (symbol_on xs ss t) (ne_eqb x t h.0)
    ∙ symbol_on_none xs ss t h.1

pub not_listed : (xs : List ℕ) (t : ℕ) → (Contains xs t → ⊥) → AllByRecursion (λ x. x ≢ t) xs
not_listed xs t h = recursion_from_All (λ x. x ≢ t) xs (λ k d l e. h (k, l, get_or_default xs k t d l ∙ e))

module _ (tiers : Tiers) (flag : ℕ → Bool) (s : Sym) where
  pub length_over : (column : List Sym) → length (over tiers flag s column) ≡ tiers.width
  length_over column = length-map-range_with_len (λ t. cond (flag t) s (symbol_on tiers.input column t)) 0 tiers.width

  pub symbol_over : (column : List Sym) (t : ℕ) → t < tiers.width
      → symbol (over tiers flag s column) t ≡ cond (flag t) s (symbol_on tiers.input column t)
  symbol_over column t l = get_or-map-range_with_len
      (λ t. cond (flag t) s (symbol_on tiers.input column t)) 0 tiers.width t t Outside l (omega arith)

  -- a tier of a flag has the one symbol at each column
  pub word_flagged : (u : List (List Sym)) (t : ℕ) → t < tiers.width → flag t ≡ true
      → tier_word (map (over tiers flag s) u) t ≡ map (λ c. s) u
  word_flagged [] t l h = refl
  word_flagged (c ∷ u) t l h =
      let first : symbol (over tiers flag s c) t ≡ s = symbol_over c t l
      ∙ cond-true (flag t) s (symbol_on tiers.input c t) h in
      let rest = word_flagged u t l h in
      cc

  -- a tier that is neither flagged nor an input tier has nothing
  pub word_outside : (u : List (List Sym)) (t : ℕ) → t < tiers.width → flag t ≡ false → (Contains tiers.input t → ⊥)
      → tier_word (map (over tiers flag s) u) t ≡ map (λ c. Outside) u
  word_outside [] t l h o = refl
  word_outside (c ∷ u) t l h o =
      let first : symbol (over tiers flag s c) t ≡ Outside = symbol_over c t l
      ∙ cond-false (flag t) s (symbol_on tiers.input c t) h
      ∙ symbol_on_none tiers.input c t (not_listed tiers.input t o) in
      let rest = word_outside u t l h o in
      cc

  module _ (split : AreSplit tiers) (off : (t : ℕ) → Contains tiers.input t → flag t ≡ false) where
    -- an input tier has its symbol of the form's column
    pub symbol_over_input : (column : List Sym) (j : ℕ) → j < length tiers.input
        → symbol (over tiers flag s column) (get_or tiers.input j 0) ≡ symbol column j
    symbol_over_input column j l =
        let t : ℕ = get_or tiers.input j 0 in
        symbol_over column t (all_at (λ t. t < tiers.width) tiers.input j 0 l split.inputs_below)
        ∙ cond-false (flag t) s (symbol_on tiers.input column t) (off t (j, l, get_or_default tiers.input j t 0 l))
        ∙ symbol_on_at tiers.input column j split.distinct l

    -- an input tier reads as the form's tier
    pub word_input : (u : List (List Sym)) (j : ℕ) → j < length tiers.input
        → tier_word (map (over tiers flag s) u) (get_or tiers.input j 0) ≡ tier_word u j
    word_input [] j l = refl
    word_input (c ∷ u) j l =
        let first = symbol_over_input c j l in
        let rest = word_input u j l in
        cc

    -- the input part is the form's column
    pub part_over : (column : List Sym) → length column ≡ length tiers.input
        → map (symbol (over tiers flag s column)) tiers.input ≡ column
    part_over column e =
        let long = length-map tiers.input (symbol (over tiers flag s column)) in
        ext_get_or Outside (map (symbol (over tiers flag s column)) tiers.input) column (omega arith)
        (λ i l. get_or-map (symbol (over tiers flag s column)) tiers.input i 0 Outside (omega arith)
        ∙ symbol_over_input column i (omega arith))

    -- with no column of the form the input part has no edge
    pub part_bare : has_edge (map (symbol (over tiers flag s [])) tiers.input) ≡ false
    part_bare =
        let long = length-map tiers.input (symbol (over tiers flag s [])) in
        list_any_none is_edge _ (All-from_get_or (λ x. is_edge x ≡ false) _ Outside
        (λ i l. ap is_edge (get_or-map (symbol (over tiers flag s [])) tiers.input i 0 Outside (omega arith)
        ∙ symbol_over_input [] i (omega arith))))

    pub project_over : (u : List (List Sym)) → AllByRecursion (λ column. length column ≡ length tiers.input) u
        → project tiers.input (map (over tiers flag s) u) ≡ u
    project_over [] h = refl
    project_over (c ∷ u) h =
        let first = part_over c h.0 in
        let rest = project_over u h.1 in
        cc

    -- an input tier reads as the form's tier, and a free one that is not flagged is empty
    pub over_runs : (u : List (List Sym)) (t : ℕ) → IsWellFormed (length tiers.input) u → t < tiers.width
        → flag t ≡ false → runs false (tier_word (map (over tiers flag s) u) t) ≡ true
    over_runs u t wf l h = ⊎_elim
        (λ i.
        let at : get_or tiers.input i.0 0 ≡ t = get_or_default tiers.input i.0 0 t i.1 ∙ i.2 in
        ap (λ (x : ℕ). runs false (tier_word (map (over tiers flag s) u) x)) (sym at)
        ∙ ap (runs false) (word_input u i.0 i.1) ∙ runs_from_well_formed (tier_word u i.0) (wf.each_tier i.0 i.1))
        (λ f. ap (runs false) (word_outside u t l h (λ i. split.apart t i f)) ∙ runs_outside u)
        (split.each t l)

    -- each column keeps the edge of the form's column
    pub over_reduced : (u : List (List Sym)) → AllByRecursion (λ column. length column ≡ length tiers.input) u
        → IsReduced u → IsReduced (map (over tiers flag s) u)
    over_reduced [] a r = tt
    over_reduced (c ∷ u) a r = (
      edge_of_part tiers.input (over tiers flag s c) (ap has_edge (part_over c a.0) ∙ r.0),
      over_reduced u a.1 r.1,
    )

    -- the form is their input part
    pub squeeze_over : (u : List (List Sym)) → AllByRecursion (λ column. length column ≡ length tiers.input) u
        → IsReduced u → squeeze (project tiers.input (map (over tiers flag s) u)) ≡ u
    squeeze_over u a r = ap squeeze (project_over u a) ∙ filter_every has_edge u r
