-- Counts beside the least counts of a form.
use Rattle.std.proofs.Common.{◌≡◌, ◌≢◌, ℕ, zero, suc, ◌<◌, ◌↔◌, true, List, [], ◌∷◌, length, take, get_or, Option}
use Rattle.std.proofs.Common.{Some, None, MatchOption, IfSome, refl, ap, sym, ◌∙◌, subst, arith}
use Rattle.std.proofs.{lemmas.Bool.false≢true, lemmas.Cmp.ranked}
use Rattle.std.specs.{Prelude.IsNone, Ordering.{nat_cmp, is_le, ordering_then}, Cmp.nat_cmp_is}
use Rattle.std.specs.{declared.cmp.Ordering.Ordering, declared.cmp.Ordering.TheVariants.{Less, Equal, Greater}}
use Rattle.std.specs.Cmp.Lexicographic.{slice_cmp}
use Rattle.tier_core.specs.declared.sym.Sym.{Sym}
use Rattle.violation.specs.Candidates.{IsAtMost, IsCandidate, IsLeastVector, IsOptimal, counts_on}
use Rattle.violation.specs.Problems.{Problem, last_stage}
use Rattle.violation.proofs.LeastVector.{all_counts_taken}
use Rattle.tableau.specs.{declared.table.TableauRow.TableauRow, Compared.{IsCompared, IsFirstOther}}
use Rattle.tableau.specs.Tableaux.{IsFirstWorse, IsTableauRow}

-- the counts that differ first, by how they compare
at_first : (m n : ℕ) (rest r : Ordering) → r ≡ nat_cmp m n → is_le (ordering_then r rest) ≡ true → n ≢ m → m < n
at_first m n rest Less e h o = ranked m n Less e
at_first m n rest Equal e h o = absurd (o (sym (ranked m n Equal e)))
at_first m n rest Greater e h o = absurd (false≢true h)

-- where the least is at most the counts, the first count that differs is greater
greater : (least counts : List ℕ) (w : ℕ) → is_le (slice_cmp nat_cmp least counts) ≡ true → w < length least
    → take w counts ≡ take w least → get_or counts w 0 ≢ get_or least w 0 → get_or least w 0 < get_or counts w 0
greater [] counts w a l b o = absurd (omega arith)
greater (m ∷ least) [] w a l b o = absurd (false≢true a)
greater (m ∷ least) (n ∷ counts) zero a l b o = at_first m n (slice_cmp nat_cmp least counts) (nat_cmp m n) refl a o
greater (m ∷ least) (n ∷ counts) (suc w) a l b o =
    let same : m ≡ n = cc in
    let rest : take w counts ≡ take w least = cc in
    greater least counts w (ap (λ r. is_le (ordering_then r (slice_cmp nat_cmp least counts)))
    (nat_cmp_is m n Equal same) ∙ a) (omega arith) rest o

module _ (problem : Problem) (least : List ℕ) (is_least : IsLeastVector problem least) where
  -- the least is at most the vector of each candidate
  at_most : (T : List (List Sym)) → IsCandidate problem T → IsAtMost least (counts_on problem T)
  at_most T c =
      let best = is_least.some.0 in
      subst (λ (v : List ℕ). IsAtMost v (counts_on problem T)) (all_counts_taken problem best ∙ is_least.some.1.1)
      (subst (λ (v : List ℕ). IsAtMost (take (last_stage problem) (counts_on problem best)) v)
      (all_counts_taken problem T)
      (is_least.some.1.0.least T c))

  -- a candidate with the least vector is optimal
  optimal : (T : List (List Sym)) → IsCandidate problem T → counts_on problem T ≡ least → IsOptimal problem T
  optimal T c e = record {
    candidate = c;
    least = λ U d. subst (λ (v : List ℕ). IsAtMost (take (last_stage problem) v)
        (take (last_stage problem) (counts_on problem U))) (is_least.some.1.1 ∙ sym e) (is_least.some.1.0.least U d);
  }

  -- what a comparison with the least says of a candidate
  judged : (T : List (List Sym)) → IsCandidate problem T → (counts : List ℕ) → counts ≡ counts_on problem T
      → (worse : Option ℕ) → MatchOption worse (counts ≡ least) (IsFirstOther least counts)
      → (IsNone worse ↔ IsOptimal problem T) × IfSome worse (IsFirstWorse least counts)
  judged T c counts e None same = ((λ _. optimal T c (sym e ∙ same), λ _. refl), tt)
  judged T c counts e (Some w) o = (
    (
      λ n. absurd (false≢true (sym n)),
      λ best. absurd
          (o.other (ap (λ xs. get_or xs w 0) (e ∙ is_least.shared T best))),
    ),
    record {
      there = o.there;
      before = o.before;
      greater = greater least counts w
          (subst (λ (v : List ℕ). IsAtMost least v) (sym e) (at_most T c)) o.there o.before o.other;
    },
  )

  pub compared_row : (T : List (List Sym)) (row : TableauRow) → IsCandidate problem T
      → IsCompared problem.constraints least T row → IsTableauRow problem least row
  compared_row T row c r =
      let judge = judged T c row.counts.items r.counts row.worse r.worse in
      record {
        counts = r.counts ∙ ap (counts_on problem) (sym r.timeline);
        optimal = subst (λ (U : List (List Sym)). IsNone row.worse ↔ IsOptimal problem U) (sym r.timeline) judge.0;
        worse = judge.1;
      }
