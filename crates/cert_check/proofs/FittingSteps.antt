-- The columns that fit a kind, in pieces: those without an edge on the input tiers, and those that read
-- a column of the form.
use Rattle.std.proofs.Common.{◌≡◌, ◌↔◌, ◌⊎◌, ℕ, ◌+◌, ◌<◌, Bool, true, false, not, ◌&&◌, ◌||◌, IsTrue, List, []}
use Rattle.std.proofs.Common.{length, refl, ap, sym, ◌∙◌, subst, arith, ⊎_elim, inl, inr}
use Rattle.std.proofs.lemmas.Bool.{both_ways, and_parts, and_from, or_cases, or_left, or_right, and_right, not-true}
use Rattle.std.proofs.lemmas.Bool.{false_from_ne_true, cases_Bool}
use Rattle.std.specs.List.{AllByRecursion}
use Rattle.tier_core.specs.{declared.class.Class.Class, declared.sym.Sym.Sym, Classes.{sets_of, has}}
use Rattle.tier_core.specs.{Kinds.PrefixKind, Scan.fits, Timelines.{symbol, column_at, is_edge, has_edge}}
use Rattle.tier_core.specs.Tiers.{has_tier}
use Rattle.tier_core.proofs.{ClassLemmas.same_width, EdgeLemmas.{none_edge, each_edgeless, edge_on}}
use Rattle.symbol_class.specs.{Held.{once_if, AddsClasses}, Parts.AddsAlike}
use Rattle.symbol_class.proofs.{PartSteps.{adds_constant, alike_then}, Times.{adds_same, pieces_added, columns_added}}
use Rattle.symbol_class.proofs.Once.{either_once}
use Rattle.violation.specs.{Moves.{FitsKind, input_of, is_tier_open}, Problems.{Problem, last_place}}
use Rattle.cert_check.specs.Fitting.{AreFitting}

-- ---- what two classes have in common

pub met_where : (x m b p : Bool) → x ≡ (m && b) → (m ≡ true → b ≡ p) → x ≡ (m && p)
met_where x true b p e h = e ∙ h refl
met_where x false b p e h = e

-- ---- the two kinds of pieces

module _ (problem : Problem) (k : PrefixKind) (coming still bare : Class) (mask : ℕ) (reads : List Sym → Bool)
    (inputs : AllByRecursion (λ t. t < problem.tiers.width) problem.tiers.input)
    (wide : length (sets_of coming) ≡ problem.tiers.width)
    (opened : (t : ℕ) → t < problem.tiers.width → has_tier mask t ≡ is_tier_open problem k t)
    (comes : (column : List Sym) → length column ≡ problem.tiers.width → IsTrue (has coming column)
    ↔ ((t : ℕ) → t < problem.tiers.width → fits (has_tier mask t) (symbol column t) ≡ true))
    (has_still : (column : List Sym)
    → has still column ≡ (has coming column && not (has_edge (input_of problem.tiers column))))
    (has_bare : (column : List Sym) → length column ≡ problem.tiers.width → IsTrue (has bare column)
    ↔ ((t : ℕ) → t < problem.tiers.width → not (is_edge (symbol column t)) ≡ true))
    (has_read : (column : List Sym) → IsTrue (reads column) ↔ (IsTrue (has coming column)
    × ((k.place < last_place problem) × (input_of problem.tiers column ≡ column_at problem.form k.place)))) where
  width_of_column : (column : List Sym) → has coming column ≡ true → length column ≡ problem.tiers.width
  width_of_column column h = same_width _ _ h ∙ wide

  abbrev is_read : List Sym → Bool
  is_read column = has_edge (input_of problem.tiers column)

  abbrev is_quiet : List Sym → Bool
  is_quiet column = has still column && not (has bare column)

  abbrev is_reading : List Sym → Bool
  is_reading column = reads column && not (has still column)

  abbrev holds : List Sym → Bool
  holds column = is_quiet column || is_reading column

  input_below : (column : List Sym) → length column ≡ problem.tiers.width → is_read column ≡ true
      → has_edge column ≡ true
  input_below column w e = edge_on _ _ (subst (λ n. AllByRecursion (λ t. t < n) problem.tiers.input) (sym w) inputs) e

  fits_column : (column : List Sym) → has coming column ≡ true → has_edge column ≡ true
      → ((is_read column ≡ false)
      ⊎ ((k.place < last_place problem) × (input_of problem.tiers column ≡ column_at problem.form k.place)))
      → FitsKind problem k column
  fits_column column f e part =
      let w = width_of_column _ f in
      record {
        width = w;
        symbols = λ t l. ap (λ b. fits b (symbol column t)) (sym (opened t l)) ∙ (comes column w).0 f t l;
        edge = e;
        input = part;
      }

  quiet_fits : (column : List Sym) → is_quiet column ≡ true → FitsKind problem k column
  quiet_fits column h =
      let s = (and_parts _ _ h).0 in
      let parts = and_parts _ _ (sym (has_still column) ∙ s) in
      let w = width_of_column _ parts.0 in
      let edge = ⊎_elim (λ y. y) (λ none. absurd (both_ways _ (not-true _ (and_parts _ _ h).1)
      ((has_bare column w).1 (λ t l. ap not (each_edgeless _ none t (omega (arith, w, l)))))))
      (cases_Bool (has_edge column)) in
      fits_column _ parts.0 edge (inl (not-true _ parts.1))

  read_here : (column : List Sym) → has coming column ≡ true → is_reading column ≡ true → is_read column ≡ true
  read_here column f h = ⊎_elim (λ y. y)
      (λ none. absurd (both_ways _ (not-true _ (and_parts _ _ h).1) (has_still column ∙ and_from _ _ f (ap not none))))
      (cases_Bool (is_read column))

  reading_fits : (column : List Sym) → is_reading column ≡ true → FitsKind problem k column
  reading_fits column h =
      let r = (has_read column).0 (and_parts _ _ h).0 in
      fits_column _ r.0 (input_below _ (width_of_column _ r.0) (read_here _ r.0 h)) (inr r.1)

  bare_none : (column : List Sym) → length column ≡ problem.tiers.width → has_edge column ≡ true
      → has bare column ≡ false
  bare_none column w e = false_from_ne_true (has bare column)
      (λ b. both_ways _ (none_edge column (λ t l. not-true _ ((has_bare column w).0 b t (omega (arith, w, l))))) e)

  fits_held : (column : List Sym) → FitsKind problem k column → holds column ≡ true
  fits_held column f =
      ⊎_elim (λ read. or_right (is_quiet column) (is_reading column) (and_from _ _ ((has_read column).1 (
        after,
        ⊎_elim (λ none. absurd (both_ways _ none read)) (λ here. here) f.input,
      ))
      (ap not
      (has_still column ∙ ap (λ b. has coming column && not b) read ∙ and_right (has coming column) false refl)))) (λ
      none. or_left (is_quiet column) (is_reading column) (and_from _ _
      (has_still column ∙ and_from _ _ after (ap not none)) (ap not (bare_none _ f.width f.edge)))) (cases_Bool (is_read
      column))
    where
      after : has coming column ≡ true
      after = (comes column f.width).1 (λ t l. ap (λ b. fits b (symbol column t)) (opened t l) ∙ f.symbols t l)

  module _ (w : ℕ) (one two : List Class) (same : w ≡ problem.tiers.width) (u : ℕ) (also : u ≡ problem.tiers.width)
      (first : AddsClasses w [] one (λ column. once_if (is_quiet column)))
      (second : AddsClasses u one two (λ column. once_if (is_reading column))) where
    both : AddsAlike problem.tiers.width [] two
        (λ column. once_if (is_quiet column) + once_if (is_reading column)) is_read
    both =
        alike_then _ [] _ _ _ _ _ _ (adds_constant _ [] _ _ _ _ (rw same at first)
        (λ column h. not-true _ (and_parts _ _ (sym (has_still column) ∙ (and_parts _ _ h).0)).1)) (adds_constant _ _ _
        _ _ _ (rw also at second) (λ column h. read_here _ ((has_read column).0 (and_parts _ _ h).0).0 h))
        (λ column. refl)

    all : AddsClasses problem.tiers.width [] two (λ column. once_if (holds column))
    all = adds_same _ [] _ _ _ both.adds (λ column. either_once _ _ _)

    pub are_fitting : AreFitting problem k two
    are_fitting = record {
      pieces = pieces_added _ _ _ all;
      columns = λ column. (
        λ h. ⊎_elim (quiet_fits _) (reading_fits _) (or_cases _ _ (sym (columns_added _ _ _ all _) ∙ h)),
        λ f. columns_added _ _ _ all _ ∙ fits_held _ f,
      );
      read = rw both.adds.new_is both.alike;
    }
