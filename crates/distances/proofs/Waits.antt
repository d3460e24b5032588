-- What waits in the heap before the first state is taken.
use Rattle.std.proofs.Common.{◌≡◌, ℕ, suc, ◌+◌, true, false, List, [], ◌∷◌, ◌++◌, ap, ◌∙◌, sym, subst, arith}
use Rattle.std.proofs.{lemmas.List.append-nil, lemmas.List.Sorted.IsPermutation-push_more}
use Rattle.std.specs.Prelude.{IsPermutation, if◌then◌else◌}
use Rattle.weight_law.specs.declared.Weight.{Ghosts}
use Rattle.arc_table.specs.{declared.state.TableState.TableState, Moves.accepting_at}
use Rattle.distances.specs.Settled.{ends_below}

module _ {W : Type 0} {g : Ghosts W} (states : List (TableState W g)) (n : ℕ) where
  ends_more : ends_below states (n + 1) ≡ ends_below states n ++ (if accepting_at states n then n ∷ [] else [])
  ends_more = let one : n + 1 ≡ suc n = omega arith in ap (λ m. ends_below states m) one

  -- a state that does not accept waits not
  pub ends_without : (ys : List ℕ) → accepting_at states n ≡ false → IsPermutation (ends_below states n) ys
      → IsPermutation (ends_below states (n + 1)) ys
  ends_without ys other so_far =
      let same : ends_below states (n + 1) ≡ ends_below states n = ends_more
      ∙ (ap (λ b. ends_below states n ++ (if b then n ∷ [] else [])) other ∙ append-nil (ends_below states n)) in
      subst (λ (xs : List ℕ). IsPermutation xs ys) (sym same) so_far

  -- one that accepts waits
  pub ends_with : (ys zs : List ℕ) → accepting_at states n ≡ true → IsPermutation (ends_below states n) ys
      → IsPermutation (n ∷ ys) zs → IsPermutation (ends_below states (n + 1)) zs
  ends_with ys zs accepts so_far pushed =
      let more : ends_below states (n + 1) ≡ ends_below states n ++ n ∷ [] = ends_more
      ∙ ap (λ b. ends_below states n ++ (if b then n ∷ [] else [])) accepts in
      subst (λ (xs : List ℕ). IsPermutation xs zs) (sym more)
      (IsPermutation-push_more (ends_below states n) ys zs n so_far pushed)
