-- What the looks at the cells before one give, entry by entry.
use Rattle.std.proofs.Common.{◌≡◌, ◌↔◌, ℕ, ◌+◌, ◌*◌, ◌<◌, Bool, false, List, length, get_or}
use Rattle.std.proofs.{Common.{sym, ap, ◌∙◌, arith, inl, inr, IsTrue}, lemmas.List.{get_or-map}}
use Rattle.tier_core.specs.{declared.sym.Sym.Sym, declared.class.Class.Class, Classes.has}
use Rattle.comprehend.specs.{Searches.Reaches, Steps.test_has}
use Rattle.comprehend.specs.Entering.{ComesBy, MeetsTest}
use Rattle.first_paths.proofs.Reaching.{reaches_same, reaches_both}

-- a test at its number
pub test_at : (tests : List Class) (k : ℕ) (test : Class) → k < length tests → test ≡ get_or tests k test
    → (column : List Sym) → test_has tests k column ≡ has test column
test_at tests k test inside is column = get_or-map (λ (t : Class). has t column) tests k test false inside
    ∙ ap (λ (t : Class). has t column) (sym is)

module _ (tests : List Class) (source place : ℕ) (class : Class) (n : ℕ) where
  -- a look along one test
  looked : (k : ℕ) (test : Class) → k < length tests → test ≡ get_or tests k test → (steps : Bool) (cell : ℕ)
      → IsTrue steps ↔ ((column : List Sym) × (IsTrue (has class column) × IsTrue (has test column)))
      → (old new before after : List ℕ) → Reaches (λ v. IsTrue steps × (v ≡ cell)) n old new before after
      → Reaches (λ v. MeetsTest tests k class × (v ≡ cell)) n old new before after
  looked k test inside is steps cell meets old new before after r =
      reaches_same (λ v. IsTrue steps × (v ≡ cell)) (λ v. MeetsTest tests k class × (v ≡ cell))
      (λ v h. (let m = meets.0 h.0 in (m.0, (m.1.0, test_at tests k test inside is m.0 ∙ m.1.1)), h.1))
      (λ v h. (meets.1 (h.0.0, (h.0.1.0, sym (test_at tests k test inside is h.0.0) ∙ h.0.1.1)), h.1))
      n old new before after r

  -- at the first place only staying leads there
  pub first_place : place ≡ 0 → (test : Class) → 0 < length tests → test ≡ get_or tests 0 test
      → (steps : Bool) (cell : ℕ) → cell ≡ source * length tests + place
      → IsTrue steps ↔ ((column : List Sym) × (IsTrue (has class column) × IsTrue (has test column)))
      → (old new before after : List ℕ) → Reaches (λ v. IsTrue steps × (v ≡ cell)) n old new before after
      → Reaches (ComesBy tests source class place) n old new before after
  first_place none test some is steps cell at meets old new before after r =
      reaches_same (λ v. MeetsTest tests 0 class × (v ≡ cell)) (ComesBy tests source class place)
      (λ v h. inl (h.0, h.1 ∙ at))
      (λ v h. elim h [ inl stays ↦ (stays.0, stays.1 ∙ sym at) | inr on ↦ absurd (omega (arith, on.1.0, none)) ])
      n old new before after (looked 0 test some is steps cell meets old new before after r)

  pub two_places : (p : ℕ) → p + 1 ≡ place → place < length tests → (test next : Class) → test ≡ get_or tests 0 test
      → next ≡ get_or tests place next → (steps on : Bool) (cell other : ℕ) → cell ≡ source * length tests + place
      → other ≡ source * length tests + p
      → IsTrue steps ↔ ((column : List Sym) × (IsTrue (has class column) × IsTrue (has test column)))
      → IsTrue on ↔ ((column : List Sym) × (IsTrue (has class column) × IsTrue (has next column)))
      → (old mid new before between after : List ℕ)
      → Reaches (λ v. IsTrue steps × (v ≡ cell)) n old mid before between
      → Reaches (λ v. IsTrue on × (v ≡ other)) n mid new between after
      → Reaches (ComesBy tests source class place) n old new before after
  two_places p at_place inside test next is next_is steps on cell other at at_other meets meets_on old mid new before
      between after first second =
      reaches_both (λ v. MeetsTest tests 0 class × (v ≡ cell)) (λ v. MeetsTest tests place class × (v ≡ other))
      (ComesBy tests source class place)
      (λ v h. elim h [
        | inl stays ↦ inl (stays.0, stays.1 ∙ sym at)
        | inr goes ↦ inr (
          goes.1.1,
          (let same : goes.0 ≡ p = omega (arith, goes.1.0, at_place) in goes.1.2
              ∙ ap (λ x. source * length tests + x) same ∙ sym at_other),
        )
      ])
      (λ v h. inl (h.0, h.1 ∙ at))
      (λ v h. inr (p, (at_place, h.0, h.1 ∙ at_other)))
      n old mid new before between after
      (looked 0 test (omega arith) is steps cell meets old mid before between first)
      (looked place next inside next_is on other meets_on mid new between after second)
