-- Where a way passes a kind.
use Rattle.std.proofs.Common.{◌≡◌, ◌≢◌, ◌⊎◌, inl, inr, ℕ, List, [], ◌∷◌, ◌++◌, refl, sym, ap, subst}
use Rattle.std.specs.List.{AllByRecursion}
use Rattle.tier_core.specs.{declared.sym.Sym.Sym, Kinds.PrefixKind}
use Rattle.tier_core.proofs.{KindTies.same_or_not, Differing.Differ}
use Rattle.violation.specs.{Moves.next_kind, Problems.Problem, Walks.walk_end}
use Rattle.kind_laws.specs.Ways.{kinds_passed}

-- a way comes to a kind behind its front, and its back passes no kind twice
pub record ComesTo (problem : Problem) (s : ℕ) (k target : PrefixKind) (way : List (List Sym)) : Type 0 where
  pub front : List (List Sym)
  pub back : List (List Sym)
  pub is : way ≡ front ++ back
  pub at : walk_end problem s k front ≡ target
  pub once : Differ (kinds_passed problem s target back)

module _ (problem : Problem) (s : ℕ) (target : PrefixKind) where
  abbrev PassesBy : PrefixKind → List (List Sym) → Type 0
  PassesBy k way = AllByRecursion (λ l. target ≢ l) (kinds_passed problem s k way)

  here : (k : PrefixKind) (way : List (List Sym)) → k ≡ target → Differ (kinds_passed problem s k way)
      → ComesTo problem s k target way
  here k way e d = record {
    front = [];
    back = way;
    is = refl;
    at = e;
    once = subst (λ l. Differ (kinds_passed problem s l way)) e d;
  }

  later : (k : PrefixKind) (column : List Sym) (way : List (List Sym)) → k ≢ target
      → ComesTo problem s (next_kind problem s k column) target way ⊎ PassesBy (next_kind problem s k column) way
      → ComesTo problem s k target (column ∷ way) ⊎ PassesBy k (column ∷ way)
  later k column way n (inl c) = inl (record {
    front = column ∷ c.front;
    back = c.back;
    is = ap (λ v. column ∷ v) c.is;
    at = c.at;
    once = c.once;
  })
  later k column way n (inr by) = inr ((λ e. n (sym e)), by)

  pub seek : (way : List (List Sym)) (k : PrefixKind) → Differ (kinds_passed problem s k way)
      → ComesTo problem s k target way ⊎ PassesBy k way
  seek [] k d = step (same_or_not k target)
    where
      step : (k ≡ target) ⊎ (k ≢ target) → ComesTo problem s k target [] ⊎ PassesBy k []
      step (inl e) = inl (here k [] e d)
      step (inr n) = inr ((λ e. n (sym e)), tt)
  seek (column ∷ way) k d = step (same_or_not k target) (seek way (next_kind problem s k column) d.1)
    where
      step : (k ≡ target) ⊎ (k ≢ target)
          → ComesTo problem s (next_kind problem s k column) target way ⊎ PassesBy (next_kind problem s k column) way
          → ComesTo problem s k target (column ∷ way) ⊎ PassesBy k (column ∷ way)
      step (inl e) rest = inl (here k (column ∷ way) e d)
      step (inr n) rest = later k column way n rest
