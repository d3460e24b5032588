-- The least vector, by its numbers.
use Rattle.std.proofs.Common.{◌≡◌, ℕ, suc, ◌-◌, ◌<◌, ◌≤◌, List, [], ◌∷◌, take, length, get_or, refl, sym, ap, ◌∙◌}
use Rattle.std.proofs.{Common.{arith, take_all}, lemmas.Bool.false≢true, lemmas.Cmp.ranked}
use Rattle.std.proofs.lemmas.List.{ext_get_or, length-map}
use Rattle.std.specs.{declared.cmp.Ordering.Ordering, declared.cmp.Ordering.TheVariants.{Less, Equal, Greater}}
use Rattle.std.specs.Ordering.{nat_cmp, ordering_then, is_eq, MatchOrdering}
use Rattle.tier_core.specs.declared.sym.Sym.{Sym}
use Rattle.violation.specs.Candidates.{vec, vec_cmp, IsOptimal, IsLeastVector, counts_on, count_at}
use Rattle.violation.specs.{Counts.violations_of, Problems.{Problem, last_stage}}
use Rattle.violation.proofs.VectorLemmas.{both_equal}

-- vectors that compare as equal are one
same_vector : (a b : List ℕ) → vec_cmp a b ≡ Equal → a ≡ b
same_vector [] [] e = refl
same_vector [] (y ∷ b) e = absurd (false≢true (ap is_eq e))
same_vector (x ∷ a) [] e = absurd (false≢true (ap is_eq e))
same_vector (x ∷ a) (y ∷ b) e = go (nat_cmp x y) (ranked x y (nat_cmp x y) refl) (same_vector a b) e
  where
    go : (o : Ordering) → MatchOrdering o (x < y) (x ≡ y) (y < x) → (vec_cmp a b ≡ Equal → a ≡ b)
        → ordering_then o (vec_cmp a b) ≡ Equal → x ∷ a ≡ y ∷ b
    go Less m rest e = absurd (false≢true (ap is_eq e))
    go Greater m rest e = absurd (false≢true (ap is_eq e))
    go Equal m rest e = ap (λ n. n ∷ a) m ∙ ap (λ ns. y ∷ ns) (rest e)

module _ (problem : Problem) where
  -- as many counts as there are stages are all counts
  pub all_counts_taken : (T : List (List Sym))
      → take (last_stage problem) (counts_on problem T) ≡ counts_on problem T
  all_counts_taken T = take_all (last_stage problem) (counts_on problem T)
      (omega (arith, length-map problem.constraints (λ c. violations_of c T)))

  -- the optimal candidates share their vector
  pub one_vector : (T U : List (List Sym)) → IsOptimal problem T → IsOptimal problem U
      → counts_on problem T ≡ counts_on problem U
  one_vector T U t v =
      let n : ℕ = last_stage problem in
      sym (all_counts_taken T) ∙ same_vector (take n (counts_on problem T)) (take n (counts_on problem U))
      (both_equal (take n (counts_on problem T)) (take n (counts_on problem U)) (t.least U v.candidate)
      (v.least T t.candidate)) ∙ all_counts_taken U

  pub vector_of_numbers : (T : List (List Sym)) (v : List ℕ) → IsOptimal problem T → length v ≡ last_stage problem
      → ((r : ℕ) → 1 ≤ r → r ≤ last_stage problem → count_at problem r T ≡ get_or v (r - 1) 0) → IsLeastVector problem v
  vector_of_numbers T v opt size numbers =
      let long : length (counts_on problem T)
      ≡ last_stage problem = length-map problem.constraints (λ c. violations_of c T) in
      let at : (i : ℕ) → i < length (counts_on problem T) → get_or (counts_on problem T) i 0 ≡ get_or v i 0 =
      λ i l. (let back : suc i - 1 ≡ i = omega arith in ap (λ (j : ℕ). get_or (counts_on problem T) j 0) (sym back)
      ∙ numbers (suc i) (omega arith) (omega arith) ∙ ap (λ (j : ℕ). get_or v j 0) back) in
      let same : counts_on problem T ≡ v = ext_get_or 0 (counts_on problem T) v (omega arith) at in
      record {
        some = (T, (opt, same));
        shared = λ U o. one_vector U T o opt ∙ same;
      }
