-- What the tests of a surface are good for.
use Rattle.std.proofs.Common.{◌≡◌, ℕ, zero, suc, ◌+◌, ◌<◌, true, false, List, [], ◌∷◌, length, get_or, map, refl}
use Rattle.std.proofs.{Common.{sym, ap, ◌∙◌, arith, inl, inr, add-one}, lemmas.Bool.{false≢true, cases_lt}}
use Rattle.std.proofs.{lemmas.List.{get_or-map, get_or_past, length-map}, lemmas.Option.slice_get_cases}
use Rattle.std.proofs.lemmas.List.Elements.{All-from_recursion}
use Rattle.std.specs.{Prelude.All, List.AllByRecursion}
use Rattle.tier_core.specs.{declared.sym.Sym.Sym, declared.class.Class.Class, declared.tier.TierKind.TierKind}
use Rattle.tier_core.specs.{Classes.{sets_of, sets_have, has}, Sets.single_set, Tiers.{is_overt, numbers_from}}
use Rattle.tier_core.specs.Timelines.{has_edge, column_at, IsReduced}
use Rattle.tier_core.proofs.ClassLemmas.{same_width}
use Rattle.comprehend.specs.{Steps.{test_has, AreTestsApart}, Tests.{still_set, still_sets, heard_sets, AreTestsOf}}
use Rattle.comprehend.proofs.HeldColumns.{heard_syms, still_holds, still_held, heard_holds, heard_held}
use Rattle.comprehend.proofs.Readings.{AreTests, reduced_at}

length-heard_sets : (kinds : List TierKind) (sets : List ℕ) (n : ℕ) → length (heard_sets kinds sets n) ≡ length kinds
length-heard_sets [] sets n = refl
length-heard_sets (kind ∷ kinds) sets n = (let rest = length-heard_sets kinds sets in omega (arith, rest))

module _ (kinds : List TierKind) (surface : List (List Sym)) (tests : List Class)
    (are : AreTestsOf kinds surface tests) where
  count : length tests ≡ length surface + 1
  count = omega (
    arith,
    ap length are.sets,
    length-map tests sets_of,
    length-map surface (λ (column : List Sym). heard_sets kinds (map single_set column) 0),
  )

  -- the sets of the tests
  sets_are : (k : ℕ) (d : Class) → k < length tests
      → sets_of (get_or tests k d) ≡ get_or
      (still_sets kinds ∷ map (λ (column : List Sym). heard_sets kinds (map single_set column) 0) surface) k []
  sets_are k d l = sym (get_or-map sets_of tests k d [] l) ∙ ap (λ xs. get_or xs k []) are.sets

  still_sets_are : (d : Class) → sets_of (get_or tests 0 d) ≡ still_sets kinds
  still_sets_are d = sets_are 0 d (omega (arith, count))

  heard_sets_are : (p : ℕ) → p < length surface → (d : Class)
      → sets_of (get_or tests (p + 1) d) ≡ heard_sets kinds (map single_set (column_at surface p)) 0
  heard_sets_are p l d =
      sets_are (p + 1) d (omega (arith, count, l))
      ∙ ap (λ k. get_or (still_sets kinds ∷ map
      (λ (column : List Sym). heard_sets kinds (map single_set column) 0) surface) k []) (add-one p)
      ∙ get_or-map (λ (column : List Sym). heard_sets kinds (map single_set column) 0) surface p [] [] l

  pub test_widths : All (λ test. length (sets_of test) ≡ length kinds) tests
  test_widths zero d l = ap length (still_sets_are d) ∙ length-map kinds still_set
  test_widths (suc p) d l =
      ap (λ k. length (sets_of (get_or tests k d))) (sym (add-one p))
      ∙ ap length (heard_sets_are p (omega (arith, count, l)) d)
      ∙ length-heard_sets kinds (map single_set (column_at surface p)) 0

  pub test_count : length tests ≡ length surface + 1
  test_count = count

  test_sets : (k : ℕ) → k < length tests → (sets : List ℕ) → ((d : Class) → sets_of (get_or tests k d) ≡ sets)
      → (column : List Sym) → test_has tests k column ≡ sets_have sets column
  test_sets k l sets is column = elim (slice_get_cases tests k).1 [
    | inl x ↦ get_or-map (λ (t : Class). has t column) tests k x.0 false l ∙ ap (λ xs. sets_have xs column) (is x.0)
    | inr none ↦ absurd (omega (arith, none.0, l))
  ]

  pub are_tests : ((p : ℕ) → p < length surface
      → length (column_at surface p) ≡ length (numbers_from is_overt 0 kinds))
      → AreTests (length kinds) (numbers_from is_overt 0 kinds) surface tests
  are_tests wide = record {
    count = count;
    still_held = λ column h.
        (let own : sets_have (still_sets kinds) column
        ≡ true = sym (test_sets 0 (omega (arith, count)) (still_sets kinds) still_sets_are column) ∙ h in
        let long : length column ≡ length kinds = same_width (still_sets kinds) column own
        ∙ length-map kinds still_set in
        ap has_edge (heard_syms kinds column long) ∙ still_held kinds column own);
    still_holds = λ column long edge.
        test_sets 0 (omega (arith, count)) (still_sets kinds) still_sets_are column
        ∙ still_holds kinds column long (sym (ap has_edge (heard_syms kinds column long)) ∙ edge);
    heard_held = λ p column l h.
        (let own = column_at surface p in
        let sets = heard_sets kinds (map single_set own) 0 in
        let holds : sets_have sets column
        ≡ true = sym (test_sets (p + 1) (omega (arith, count, l)) sets (heard_sets_are p l) column) ∙ h in
        let long : length column ≡ length kinds = same_width sets column holds
        ∙ length-heard_sets kinds (map single_set own) 0 in
        heard_syms kinds column long ∙ heard_held own kinds 0 0 column (omega (arith, wide p l)) holds);
    heard_holds = λ p column l long e.
        (let own = column_at surface p in
        test_sets (p + 1) (omega (arith, count, l)) (heard_sets kinds (map single_set own) 0)
        (heard_sets_are p l) column
        ∙ heard_holds own kinds 0 column long (sym (heard_syms kinds column long) ∙ e));
  }

-- no column stays and goes on
pub tests_apart : (width : ℕ) (overt : List ℕ) (surface : List (List Sym)) (tests : List Class)
    → AreTests width overt surface tests → IsReduced surface → AreTestsApart tests
tests_apart width overt surface tests are reduced k column still on = elim (cases_lt k (length surface)) [
  | inl l ↦ false≢true (sym (are.still_held column still) ∙ ap has_edge (are.heard_held k column l on)
      ∙ reduced_at surface k reduced l)
  | inr l ↦ false≢true (sym (get_or_past (map (λ (t : Class). has t column) tests) (k + 1) false
      (omega (arith, l, are.count, length-map tests (λ (t : Class). has t column)))) ∙ on)
]

-- the columns of a list that have one width
pub width_at : (width : ℕ) (surface : List (List Sym)) (p : ℕ)
    → AllByRecursion (λ column. length column ≡ width) surface → p < length surface
    → length (column_at surface p) ≡ width
width_at width surface p wide l = All-from_recursion (λ (column : List Sym). length column ≡ width) surface wide p [] l
