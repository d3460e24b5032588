-- Whether a list of columns is a form, and whether it is a candidate, can be told.
use Rattle.std.proofs.Common.{◌≡◌, ℕ, ◌<◌, true, false, List, [], ◌∷◌, length, inl, inr}
use Rattle.std.proofs.lemmas.Bool.{cases_eq}
use Rattle.std.specs.List.{AllByRecursion}
use Rattle.tier_core.specs.declared.sym.Sym.{Sym}
use Rattle.tier_core.specs.{Timelines.{IsWellFormed, IsReduced, tier_word, project, squeeze}, Tiers.Tiers}
use Rattle.tier_core.specs.Words.{IsWellFormedWord}
use Rattle.tier_core.proofs.{WordForm.{well_formed_from_runs, runs_from_well_formed}, WordLemmas.runs}
use Rattle.violation.specs.{Candidates.{IsForm, IsCandidate}, Problems.Problem}
use Rattle.cert_check.proofs.Decisions.{Decided, from_both, is_true, for_all_below, is_symbol, is_list}

for_each : {X : Type 0} (P : X → Type 0) → ((x : X) → Decided (P x)) → (xs : List X) → Decided (AllByRecursion P xs)
for_each P decide [] = inl tt
for_each P decide (x ∷ xs) = from_both (decide x) (for_each P decide xs)

is_word : (w : List Sym) → Decided (IsWellFormedWord w)
is_word w = told (is_true _)
  where
    told : Decided (runs false w ≡ true) → Decided (IsWellFormedWord w)
    told (inl h) = inl (well_formed_from_runs w h)
    told (inr n) = inr (λ h. n (runs_from_well_formed w h))

is_well_formed : (width : ℕ) (T : List (List Sym)) → Decided (IsWellFormed width T)
is_well_formed width T =
    told (for_each _ (λ column. cases_eq (length column) width) T) (for_all_below _ _ (λ t l. is_word _))
  where
    told : Decided (AllByRecursion (λ column. length column ≡ width) T)
        → Decided ((t : ℕ) → t < width → IsWellFormedWord (tier_word T t)) → Decided (IsWellFormed width T)
    told (inl w) (inl h) = inl (record { one_width = w; each_tier = h })
    told (inl w) (inr n) = inr (λ h. n h.each_tier)
    told (inr n) d = inr (λ h. n h.one_width)

is_reduced : (T : List (List Sym)) → Decided (IsReduced T)
is_reduced T = for_each _ (λ column. is_true _) T

pub is_form : (tiers : Tiers) (u : List (List Sym)) → Decided (IsForm tiers u)
is_form tiers u = told (is_well_formed _ u) (is_reduced u)
  where
    told : Decided (IsWellFormed (length tiers.input) u) → Decided (IsReduced u) → Decided (IsForm tiers u)
    told (inl w) (inl r) = inl (record { well_formed = w; reduced = r })
    told (inl w) (inr n) = inr (λ h. n h.reduced)
    told (inr n) d = inr (λ h. n h.well_formed)

pub is_candidate : (problem : Problem) (T : List (List Sym)) → Decided (IsCandidate problem T)
is_candidate problem T = told (is_well_formed _ T) (is_reduced T) (is_list (is_list is_symbol) _ _)
  where
    told : Decided (IsWellFormed problem.tiers.width T) → Decided (IsReduced T)
        → Decided (squeeze (project problem.tiers.input T) ≡ problem.form) → Decided (IsCandidate problem T)
    told (inl w) (inl r) (inl i) = inl (record { well_formed = w; reduced = r; input = i })
    told (inl w) (inl r) (inr n) = inr (λ h. n h.input)
    told (inl w) (inr n) d = inr (λ h. n h.reduced)
    told (inr n) r d = inr (λ h. n h.well_formed)
