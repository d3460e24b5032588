-- The kind of the empty prefix comes first, and the kind of a prefix is a possible one.
use Rattle.std.proofs.Common.{◌≡◌, ℕ, zero, suc, ◌<◌, true, false, List, [], ◌∷◌, length, get_or, refl, sym, ap}
use Rattle.std.proofs.{Common.{◌∙◌, arith, Contains, Some, slice_get}, lemmas.List.{length-map, length-take}}
use Rattle.std.proofs.lemmas.Map.Keys.{Less-from_sorted}
use Rattle.std.specs.{List.AllByRecursion, List.Sorted.IsStrictlySortedBy, declared.cmp.Ordering.TheVariants.Less}
use Rattle.tier_core.specs.{declared.sym.Sym.Sym, Kinds.{PrefixKind, kind_order}, Timelines.tier_word}
use Rattle.violation.specs.{Candidates.IsForm, Conditions.{AreSplit, IsOverTiers}}
use Rattle.violation.specs.{Prefixes.{is_open, phase, kind_of, stretches}, Problems.Problem}
use Rattle.violation.proofs.{PrefixLemmas.{IsBegun, input_part}, FirstKind.none_before, ClosedPhases.phases_closed}
use Rattle.answer_text.specs.Certified.{IsPossibleKind}

-- ---- the first of a list that ascends

first_at : (ks : List PrefixKind) → IsStrictlySortedBy kind_order ks → (k : PrefixKind) (i : ℕ) → i < length ks
    → get_or ks i k ≡ k → ((l : PrefixKind) → Contains ks l → kind_order l k ≡ Less → ⊥) → slice_get ks 0 ≡ Some k
first_at [] sorted k i l e bar = absurd (omega arith)
first_at (x ∷ xs) sorted k zero l e bar = ap (λ y. Some y) e
first_at (x ∷ xs) sorted k (suc i) l e bar = absurd
    (bar x (0, omega arith, refl) (ap (kind_order x) (sym e)
    ∙ Less-from_sorted kind_order (x ∷ xs) 0 (suc i) k sorted (omega arith) l))

-- a member before which no other comes is the first
pub first_is : (ks : List PrefixKind) → IsStrictlySortedBy kind_order ks → (k : PrefixKind) → Contains ks k
    → ((l : PrefixKind) → Contains ks l → kind_order l k ≡ Less → ⊥) → slice_get ks 0 ≡ Some k
first_is ks sorted k h bar = first_at ks sorted k h.0 h.1 h.2 bar

-- ---- no kind comes before that of the empty prefix

pub none_before_start : (problem : Problem) (r : ℕ)
    → AllByRecursion (IsOverTiers problem.tiers.width) (stretches problem r) → (p : List (List Sym))
    → kind_order (kind_of problem r p) (kind_of problem r []) ≡ Less → ⊥
none_before_start problem r over p =
    none_before problem r (kind_of problem r p) over
    (length-map problem.tiers.free (λ t. is_open (tier_word p t)))
    (length-map (stretches problem r) (λ c. phase c.left c.right p))

-- ---- the kind of a prefix

module _ (problem : Problem) (split : AreSplit problem.tiers) (form : IsForm problem.tiers problem.form) (r : ℕ)
    (p : List (List Sym)) (begun : IsBegun problem p) where
  pub possible : AllByRecursion (IsOverTiers problem.tiers.width) (stretches problem r)
      → IsPossibleKind problem r (kind_of problem r p)
  possible over = record {
    place = omega (arith, ap length begun.place, length-take (length (input_part problem.tiers p)) problem.form);
    phases = phases_closed problem split form r p begun (stretches problem r) over;
  }
