-- The pieces of a class that fit a kind.
use Rattle.std.proofs.Common.{◌≡◌, ◌↔◌, ◌⊎◌, ℕ, ◌+◌, ◌<◌, Bool, true, false, not, ◌&&◌, ◌||◌, IsTrue, List, [], ◌∷◌}
use Rattle.std.proofs.Common.{◌++◌, map, length, refl, ap, sym, ◌∙◌, subst, arith, ⊎_elim, inl, inr, All}
use Rattle.std.proofs.lemmas.Bool.{false≢true, both_ways, and_parts, and_from, or_cases, or_left, or_right}
use Rattle.std.proofs.lemmas.Bool.{and_right, not-true, false_from_ne_true, cases_Bool}
use Rattle.std.proofs.lemmas.List.Elements.{All-from_recursion}
use Rattle.std.specs.List.{AllByRecursion}
use Rattle.tier_core.specs.{declared.class.Class.Class, declared.kind.Kind.Kind, declared.sym.Sym.Sym}
use Rattle.tier_core.specs.{Classes.{sets_of, has}, Scan.fits, Timelines.{symbol, column_at, is_edge, has_edge}}
use Rattle.tier_core.specs.{declared.tier.TierKind.TierKind, Tiers.{has_tier, is_input, numbers_from}}
use Rattle.tier_core.specs.Filled.{is_filled}
use Rattle.tier_core.proofs.{ClassLemmas.same_width, Filled.empty_holds}
use Rattle.tier_core.proofs.EdgeLemmas.{none_edge, each_edgeless, edge_on}
use Rattle.symbol_class.specs.{Held.{once_if, times_held, AddsClasses}, Parts.AddsAlike}
use Rattle.symbol_class.proofs.PartSteps.{adds_constant, alike_then}
use Rattle.symbol_class.proofs.Times.{adds_none, adds_same, times-cons, pieces_added, columns_added}
use Rattle.symbol_class.proofs.Once.{either_once}
use Rattle.violation.specs.Moves.{input_of, is_tier_open}
use Rattle.violation.proofs.SplitLemmas.{tiers_split}
use Rattle.kind_moves.specs.{declared.frame.Frame.Frame, Fitting.{AreFitting, IsReadAlike}}
use Rattle.kind_moves.specs.Frames.{problem_in, tiers_in, form_in, kind_at_stage, FitsAt}

-- ---- one class without another

pub rest_of_none : (old : List Class) (a b : Class) → is_filled a ≡ false
    → AddsClasses (length (sets_of a)) old old (λ column. once_if (has a column && not (has b column)))
rest_of_none old a b empty =
    adds_none (length (sets_of a)) old (λ column. once_if (has a column && not (has b column)))
    (λ column. ap (λ held. once_if (held && not (has b column))) (empty_holds a column empty))

apart_once : (p q : Bool) → (p && q) ≡ false → once_if p ≡ once_if (p && not q)
apart_once true true h = absurd (false≢true (sym h))
apart_once true false h = refl
apart_once false q h = refl

pub rest_apart : (old new : List Class) (a b both : Class) → is_filled a ≡ true → is_filled both ≡ false
    → ((column : List Sym) → has both column ≡ (has a column && has b column)) → new ≡ old ++ a ∷ []
    → AddsClasses (length (sets_of a)) old new (λ column. once_if (has a column && not (has b column)))
rest_apart old new a b both filled empty meets is = record {
  added = a ∷ [];
  new_is = is;
  one_width = All-from_recursion (λ class. length (sets_of class) ≡ length (sets_of a)) (a ∷ []) (refl, tt);
  filled = All-from_recursion (λ class. IsTrue (is_filled class)) (a ∷ []) (filled, tt);
  held = λ column.
      let none : times_held [] column ≡ 0 = refl in
      let once = apart_once (has a column) (has b column) (sym (meets column) ∙ empty_holds both column empty) in
      omega (arith, times-cons a [] column, none, once);
}

-- ---- classes by what is read

pub still_by : (frame : Frame) (following still : Class) (kinds : List TierKind)
    → kinds ≡ frame.grammar.now.tiers.kinds.items
    → ((column : List Sym) → has still column ≡ (has following column
    && not (has_edge (map (symbol column) (numbers_from is_input 0 kinds)))))
    → (column : List Sym) → has still column ≡ (has following column
    && not (has_edge (input_of (tiers_in frame) column)))
still_by frame following still kinds same h column =
    h column ∙ ap (λ ks. has following column && not (has_edge (map (symbol column) (numbers_from is_input 0 ks))))
    same

pub bare_by : (class still bare : Class) → length (sets_of still) ≡ length (sets_of class)
    → ((column : List Sym) → IsTrue (has bare column) ↔ (IsTrue (has still column)
    × ((t : ℕ) → t < length (sets_of still) → is_edge (symbol column t) ≡ false)))
    → (column : List Sym) → IsTrue (has bare column) ↔ (IsTrue (has still column)
    × ((t : ℕ) → t < length (sets_of class) → is_edge (symbol column t) ≡ false))
bare_by class still bare same h column = subst (λ n. IsTrue (has bare column)
    ↔ (IsTrue (has still column) × ((t : ℕ) → t < n → is_edge (symbol column t) ≡ false))) same (h column)

pub read_by : (frame : Frame) (place : ℕ) (following read : Class) (kinds : List TierKind) (form : List Sym)
    → kinds ≡ frame.grammar.now.tiers.kinds.items → form ≡ column_at (form_in frame) place
    → place < length (form_in frame)
    → ((column : List Sym) → IsTrue (has read column) ↔ (IsTrue (has following column)
    × (map (symbol column) (numbers_from is_input 0 kinds) ≡ form)))
    → (column : List Sym) → IsTrue (has read column) ↔ (IsTrue (has following column)
    × ((place < length (form_in frame)) × (input_of (tiers_in frame) column ≡ column_at (form_in frame) place)))
read_by frame place following read kinds form same is l h column = (
  λ r. let g = (h column).0 r in (
    g.0,
    (
      l,
      ap (λ ks. map (symbol column) (numbers_from is_input 0 ks)) (sym same)
          ∙ g.1 ∙ is,
    ),
  ),
  λ r. (h column).1 (r.0, ap (λ ks. map (symbol column) (numbers_from is_input 0 ks)) same ∙ r.1.1 ∙ sym is),
)

pub none_by : (frame : Frame) (place : ℕ) (following : Class) → place ≡ length (form_in frame)
    → (column : List Sym) → IsTrue false ↔ (IsTrue (has following column)
    × ((place < length (form_in frame)) × (input_of (tiers_in frame) column ≡ column_at (form_in frame) place)))
none_by frame place following e column = (λ h. absurd (false≢true h), λ r. absurd (omega (arith, r.1.0)))

-- ---- the two kinds of pieces

-- A class is parted by what is read: of the columns that follow, those without an edge on the input tiers,
-- those of these that have no edge at all, and those that read the column of the form at the place.
pub record IsParted (frame : Frame) (kind : Kind) (class following still bare : Class) (mask : ℕ)
    (reads : List Sym → Bool) : Type 0 where
  pub wide : length (sets_of class) ≡ (tiers_in frame).width
  pub opened : (stage t : ℕ) → has_tier mask t ≡ is_tier_open (problem_in frame) (kind_at_stage frame stage kind) t
  pub follows : (column : List Sym) → IsTrue (has following column)
      ↔ (IsTrue (has class column) × ((t : ℕ) → t < length (sets_of class)
      → fits (has_tier mask t) (symbol column t) ≡ true))
  pub has_still : (column : List Sym)
      → has still column ≡ (has following column && not (has_edge (input_of (tiers_in frame) column)))
  pub has_bare : (column : List Sym) → IsTrue (has bare column)
      ↔ (IsTrue (has still column) × ((t : ℕ) → t < length (sets_of class) → is_edge (symbol column t) ≡ false))
  pub has_read : (column : List Sym) → IsTrue (reads column) ↔ (IsTrue (has following column)
      × ((kind.place < length (form_in frame)) × (input_of (tiers_in frame) column
      ≡ column_at (form_in frame) kind.place)))

module _ {frame : Frame} {kind : Kind} {class following still bare : Class} {mask : ℕ} {reads : List Sym → Bool}
    (parted : IsParted frame kind class following still bare mask reads) where
  width_of_column : (column : List Sym) → has class column ≡ true → length column ≡ (tiers_in frame).width
  width_of_column column h = same_width (sets_of class) column h ∙ parted.wide

  abbrev is_read : List Sym → Bool
  is_read column = has_edge (input_of (tiers_in frame) column)

  input_below : (column : List Sym) → length column ≡ (tiers_in frame).width → is_read column ≡ true
      → has_edge column ≡ true
  input_below column w e =
      edge_on (tiers_in frame).input column
      (subst (λ n. AllByRecursion (λ t. t < n) (tiers_in frame).input) (sym w)
      (tiers_split frame.grammar.now.tiers.kinds.items).inputs_below) e

  abbrev holds : List Sym → Bool
  holds column = (has still column && not (has bare column)) || (reads column && not (has still column))

  fits_column : (stage : ℕ) (column : List Sym) → has following column ≡ true → has_edge column ≡ true
      → ((is_read column ≡ false) ⊎ ((kind.place < length (form_in frame))
      × (input_of (tiers_in frame) column ≡ column_at (form_in frame) kind.place)))
      → IsTrue (has class column) × FitsAt frame stage kind column
  fits_column stage column f e part =
      let g = (parted.follows column).0 f in (
        g.0,
        record {
          width = width_of_column column g.0;
          symbols = λ t l. ap (λ b. fits b (symbol column t)) (sym (parted.opened stage t)) ∙ g.1 t
              (omega (arith, parted.wide));
          edge = e;
          input = part;
        },
      )

  pub still_fits : (stage : ℕ) (column : List Sym) → (has still column && not (has bare column)) ≡ true
      → IsTrue (has class column) × FitsAt frame stage kind column
  still_fits stage column h =
      let s = (and_parts (has still column) (not (has bare column)) h).0 in
      let parts = and_parts (has following column) (not (is_read column)) (sym (parted.has_still column) ∙ s) in
      let in_class = ((parted.follows column).0 parts.0).0 in
      let edge : has_edge column ≡ true = ⊎_elim (λ y. y) (λ none. absurd
      (both_ways (has bare column) (not-true (has bare column)
      (and_parts (has still column) (not (has bare column)) h).1)
      ((parted.has_bare column).1 (
        s,
        λ t l. each_edgeless column none t
            (omega (arith, parted.wide, width_of_column column in_class)),
      )))) (cases_Bool (has_edge column)) in
      fits_column stage column parts.0 edge (inl (not-true (is_read column) parts.1))

  pub read_here : (column : List Sym) → has following column ≡ true → (reads column && not (has still column)) ≡ true
      → is_read column ≡ true
  read_here column f h = ⊎_elim (λ y. y) (λ none. absurd (both_ways (has still column)
      (not-true (has still column) (and_parts (reads column) (not (has still column)) h).1)
      (parted.has_still column ∙ and_from (has following column) (not (is_read column)) f (ap not none))))
      (cases_Bool (is_read column))

  pub read_fits : (stage : ℕ) (column : List Sym) → (reads column && not (has still column)) ≡ true
      → IsTrue (has class column) × FitsAt frame stage kind column
  read_fits stage column h =
      let r = (parted.has_read column).0 (and_parts (reads column) (not (has still column)) h).0 in
      fits_column stage column r.0 (input_below column (width_of_column column ((parted.follows column).0 r.0).0)
      (read_here column r.0 h)) (inr r.1)

  bare_none : (column : List Sym) → has class column ≡ true → has_edge column ≡ true → has bare column ≡ false
  bare_none column c e = false_from_ne_true (has bare column)
      (λ b. both_ways (has_edge column) (none_edge column (λ t l. ((parted.has_bare column).0 b).1 t
      (omega (arith, parted.wide, width_of_column column c)))) e)

  fits_held : (stage : ℕ) (column : List Sym) → IsTrue (has class column) → FitsAt frame stage kind column
      → holds column ≡ true
  fits_held stage column c f =
      ⊎_elim
      (λ read. or_right (has still column && not (has bare column)) (reads column && not (has still column))
      (and_from (reads column) (not (has still column))
      ((parted.has_read column).1 (
        after,
        ⊎_elim (λ none. absurd (both_ways (is_read column) none read))
            (λ here. here) f.input,
      ))
      (ap not (parted.has_still column ∙ ap (λ b. has following column && not b) read
      ∙ and_right (has following column) false refl))))
      (λ none. or_left (has still column && not (has bare column)) (reads column && not (has still column))
      (and_from (has still column) (not (has bare column))
      (parted.has_still column ∙ and_from (has following column) (not (is_read column)) after (ap not none))
      (ap not (bare_none column c f.edge))))
      (cases_Bool (is_read column))
    where
      after : has following column ≡ true
      after = (parted.follows column).1 (
        c,
        λ t l. ap (λ b. fits b (symbol column t)) (parted.opened stage t)
            ∙ f.symbols t (omega (arith, parted.wide)),
      )

  module _ (w : ℕ) (one two : List Class) (same : w ≡ (tiers_in frame).width) (u : ℕ)
      (also : u ≡ (tiers_in frame).width)
      (first : AddsClasses w [] one (λ column. once_if (has still column && not (has bare column))))
      (second : AddsClasses u one two (λ column. once_if (reads column && not (has still column)))) where
    both : AddsAlike (tiers_in frame).width [] two (λ column. once_if
        (has still column && not (has bare column)) + once_if (reads column && not (has still column))) is_read
    both =
        alike_then (tiers_in frame).width [] one two (λ column. once_if (has still column && not (has bare column)))
        (λ column. once_if (reads column && not (has still column)))
        (λ column. once_if (has still column && not (has bare column)) + once_if
        (reads column && not (has still column))) is_read
        (adds_constant (tiers_in frame).width [] one (λ column. has still column
        && not (has bare column)) is_read false (subst (λ n. AddsClasses n [] one
        (λ column. once_if (has still column && not (has bare column)))) same first)
        (λ column h. not-true (is_read column) (and_parts (has following column) (not (is_read column))
        (sym (parted.has_still column) ∙ (and_parts (has still column) (not (has bare column)) h).0)).1))
        (adds_constant (tiers_in frame).width one two (λ column. reads column && not (has still column)) is_read true
        (subst (λ n. AddsClasses n one two (λ column. once_if (reads column && not (has still column)))) also
        second)
        (λ column h. read_here column ((parted.has_read column).0
        (and_parts (reads column) (not (has still column)) h).0).0
        h))
        (λ column. refl)

    all : AddsClasses (tiers_in frame).width [] two (λ column. once_if (holds column))
    all = adds_same (tiers_in frame).width [] two (λ column. once_if
        (has still column && not (has bare column)) + once_if (reads column && not (has still column)))
        (λ column. once_if (holds column)) both.adds
        (λ column. either_once (has still column) (has bare column) (reads column))

    pub are_fitting : (stage : ℕ) → AreFitting frame stage kind class two
    are_fitting stage = record {
      pieces = pieces_added (tiers_in frame).width two holds all;
      columns = λ column. (
        λ h. ⊎_elim (still_fits stage column) (read_fits stage column)
            (or_cases (has still column && not (has bare column)) (reads column && not (has still column))
            (sym (columns_added (tiers_in frame).width two holds all column) ∙ h)),
        λ p. columns_added (tiers_in frame).width two holds all column ∙ fits_held stage column p.0 p.1,
      );
    }

    pub are_read_alike : All (IsReadAlike frame) two
    are_read_alike = subst (All (IsReadAlike frame)) (sym both.adds.new_is) both.alike
