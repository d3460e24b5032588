-- Right answers of the stages and of a single pass agree.
use Rattle.std.proofs.{Common.{◌≡◌, ◌↔◌, List, [], ◌∷◌, true, length, refl, sym, ap, ◌∙◌}, lemmas.Bool.false≢true}
use Rattle.std.proofs.lemmas.Cmp.{lists_total, nat_cmp_total}
use Rattle.std.specs.{declared.cmp.Ordering.Ordering, declared.cmp.Ordering.TheVariants.{Less, Equal, Greater}}
use Rattle.std.specs.{Ordering.{nat_cmp, is_eq, ordering_then, ordering_reverse}, Cmp.Lexicographic.slice_cmp}
use Rattle.tier_core.specs.{declared.sym.Sym.Sym, Orders.{column_cmp, timeline_cmp, IsFirst}}
use Rattle.first_paths.proofs.Order.{column_total, equal_columns}
use Rattle.violation.specs.{Problems.Problem, Candidates.IsOptimal}
use Rattle.violation.proofs.VectorLemmas.{equal_from_both}
use Rattle.answer_text.specs.{declared.answer.Answer.Answer, declared.once_answer.OnceAnswer.OnceAnswer}
use Rattle.answer_text.specs.{Acceptance.Accepts, Right.IsRight, RightOnce.IsRightOnce}

reverse_then : (o p : Ordering) → ordering_then (ordering_reverse o) (ordering_reverse p)
    ≡ ordering_reverse (ordering_then o p)
reverse_then Less p = refl
reverse_then Equal p = refl
reverse_then Greater p = refl

then_parts : (o p : Ordering) → ordering_then o p ≡ Equal → p ≡ Equal
then_parts Less p e = absurd (false≢true (ap is_eq e))
then_parts Equal p e = e
then_parts Greater p e = absurd (false≢true (ap is_eq e))

then_first : (o p : Ordering) → ordering_then o p ≡ Equal → o ≡ Equal
then_first Less p e = absurd (false≢true (ap is_eq e))
then_first Equal p e = refl
then_first Greater p e = absurd (false≢true (ap is_eq e))

same_columns : (T U : List (List Sym)) → slice_cmp column_cmp T U ≡ Equal → T ≡ U
same_columns [] [] e = refl
same_columns [] (y ∷ U) e = absurd (false≢true (ap is_eq e))
same_columns (x ∷ T) [] e = absurd (false≢true (ap is_eq e))
same_columns (x ∷ T) (y ∷ U) e =
    ap (λ c. c ∷ T) (equal_columns x y (then_first (column_cmp x y) (slice_cmp column_cmp T U) e))
    ∙ ap (λ cs. y ∷ cs) (same_columns T U (then_parts (column_cmp x y) (slice_cmp column_cmp T U) e))

turned : (T U : List (List Sym)) → timeline_cmp T U ≡ ordering_reverse (timeline_cmp U T)
turned T U =
    ap (λ o. ordering_then o (slice_cmp column_cmp T U)) (nat_cmp_total.antisymm (length T) (length U))
    ∙ ap (ordering_then (ordering_reverse (nat_cmp (length U) (length T)))) ((lists_total column_total).antisymm T U)
    ∙ reverse_then (nat_cmp (length U) (length T)) (slice_cmp column_cmp U T)

-- a set has one first timeline
pub one_first : (S : List (List Sym) → Type 0) (T U : List (List Sym)) → IsFirst S T → IsFirst S U → T ≡ U
one_first S T U first other =
    same_columns T U
    (then_parts (nat_cmp (length T) (length U)) (slice_cmp column_cmp T U)
    (equal_from_both (timeline_cmp T U) (timeline_cmp U T) (turned T U) (first.least U other.member)
    (other.least T first.member)))

module _ (problem : Problem) (answer : Answer) (once : OnceAnswer) (right : IsRight problem answer)
    (passed : IsRightOnce problem once) where
  pub same_accepted : (T : List (List Sym))
      → Accepts answer.automaton.states.items T ↔ Accepts once.automaton.states.items T
  same_accepted T =
      let staged = right.automaton.accepts T in
      let single = passed.automaton.accepts T in
      (λ a. single.1 (staged.0 a), λ a. staged.1 (single.0 a))

  pub same_counts : answer.counts.items ≡ once.counts.items
  same_counts = let best = right.counts.some in sym best.1.1 ∙ passed.counts.shared best.0 best.1.0

  pub same_example : answer.example ≡ once.example
  same_example = one_first (IsOptimal problem) answer.example once.example right.example passed.example
