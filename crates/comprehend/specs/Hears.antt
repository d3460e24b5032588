-- Heard entries: which entries of a lexicon have an optimal candidate with a surface.
use Rattle.std.specs.Prelude.{◌≡◌, ◌<◌, ◌++◌, ℕ, List, [], ◌∷◌, Option, None, Some, Contains, map, slice_get}
use Rattle.std.specs.List.Sorted.{IsStrictlySortedBy}
use Rattle.std.specs.Ordering.{nat_cmp}
use Rattle.tier_core.specs.declared.sym.Sym.{Sym}
use Rattle.tier_core.specs.Orders.{IsFirst}
use Rattle.violation.specs.Problems.{Problem}
use Rattle.lexicon.specs.declared.entry.Entry.{Entry}
use Rattle.ranked_gen.specs.Budgets.{IsFirstOver, AreAllWithin}
use Rattle.comprehend.specs.declared.hit.Hit.{Hit}
use Rattle.comprehend.specs.Surfaces.{HasSurface}

-- the underlying forms of entries
abbrev pub forms_of : List Entry → List (List (List Sym))
forms_of entries = map (λ entry. entry.form) entries

-- the numbers of the entries of hits
abbrev pub indexes_of : List Hit → List ℕ
indexes_of hits = map (λ hit. hit.index) hits

-- a hit is of an entry: it has the entry's number, and the first of its optimal candidates with the surface
pub record IsHit (ask : List (List Sym) → Problem) (forms : List (List (List Sym))) (surface : List (List Sym))
    (hit : Hit) : Type 0 where
  pub form : List (List Sym)
  pub numbered : slice_get forms hit.index ≡ Some form
  pub first : IsFirst (HasSurface (ask form) surface) hit.example

-- The hits are exactly the entries that have an optimal candidate with the surface, in the order of
-- the lexicon and each once. With a form, `ask` says what problem is asked.
pub record Hears (ask : List (List Sym) → Problem) (forms : List (List (List Sym))) (surface : List (List Sym))
    (hits : List Hit) : Type 0 where
  pub in_order : IsStrictlySortedBy nat_cmp (indexes_of hits)
  pub each : (hit : Hit) → Contains hits hit → IsHit ask forms surface hit
  pub every : (index : ℕ) (form T : List (List Sym)) → slice_get forms index ≡ Some form
      → HasSurface (ask form) surface T → Contains (indexes_of hits) index

-- no stage of an entry has more kinds than the budget
abbrev pub AreEntriesWithin : (List (List Sym) → Problem) → List (List (List Sym)) → ℕ → Type 0
AreEntriesWithin ask forms budget = (index : ℕ) (form : List (List Sym)) → slice_get forms index ≡ Some form
    → AreAllWithin (ask form) budget

-- The entry of this number is the first with a stage that has more kinds than the budget, and this
-- stage is its first.
pub record IsFirstEntryOver (ask : List (List Sym) → Problem) (forms : List (List (List Sym)))
    (budget index stage : ℕ) : Type 0 where
  pub form : List (List Sym)
  pub numbered : slice_get forms index ≡ Some form
  pub over : IsFirstOver (ask form) budget stage
  pub before : (earlier : ℕ) (other : List (List Sym)) → earlier < index → slice_get forms earlier ≡ Some other
      → AreAllWithin (ask other) budget

-- a hit of this number has been appended, if something is heard
abbrev pub IsPushed : List Hit → List Hit → ℕ → Option (List (List Sym)) → Type 0
IsPushed old new index None = new ≡ old
IsPushed old new index (Some example) = new ≡ old ++ record { index = index; example = example } ∷ []
