-- The kinds of stage 0, and how many there are.
use Rattle.std.proofs.Common.{◌≡◌, ◌≢◌, ℕ, ◌+◌, ◌*◌, ◌^◌, ◌<◌, ◌≤◌, false, List, [], ◌∷◌, Result, Ok, Err, IfOk}
use Rattle.std.proofs.Common.{map, take, drop, length, refl, ap, sym, ◌∙◌, subst, arith, ne_eqb, eqb, Contains}
use Rattle.std.proofs.{lemmas.List.length-map, lemmas.List.FromFn.length-range_with_len}
use Rattle.std.proofs.Math.Nat.{mul-le-mul, pow-le-pow_right}
use Rattle.std.specs.{List.{range_with_len, IsDistinct}, Ordering.nat_cmp, declared.cmp.Ordering.TheVariants.Less}
use Rattle.tier_core.specs.{declared.sym.Sym.Sym, Kinds.{PrefixKind, kind_order}}
use Rattle.violation.specs.{Candidates.{IsForm, IsCandidate}, Conditions.{AreSplit, AreDistinct}}
use Rattle.violation.specs.{Stages.{IsPassed, AreKindsOfStage}, Walks.BeginsCandidate, Problems.Problem}
use Rattle.tier_core.proofs.{KindTies.not_before_itself, Members.{contains_map, contains_of_map, contains_first}}
use Rattle.tier_core.proofs.Members.{contains_later, all_from_members, all_at_member}
use Rattle.tier_core.proofs.RangeMembers.{in_range, range_has}
use Rattle.ranked_gen.specs.{Budgets.IsFirstOver, Numbers.{number_of_kind, kind_of_number}, Listed.kind_count}
use Rattle.ranked_gen.proofs.NumberLemmas.{kind_of_number-number, kinds_less}
use Rattle.ranked_gen.proofs.Ascending.{Ascends, sorted_from, ascends_map, ascends_range, nat_less}
use Rattle.ranked_gen.proofs.KindsWithin.{IsWithin, number_within, numbered_within, kind_within}
use Rattle.ranked_gen.proofs.AllPassed.{all_passed}
use Rattle.violation.proofs.CutCandidates.{candidate_cut}

-- numbers of kinds are small
pub first_small : (place free : ℕ) → place ≤ 65 → free ≤ 12 → (place * 2 ^ free ≤ 266240) × (2 ^ free ≤ 4096)
first_small place free l h =
    let two : 0 < 2 = omega arith in
    let power : 2 ^ free ≤ 2 ^ 12 = pow-le-pow_right two h in
    let times : place * 2 ^ free ≤ 65 * 2 ^ 12 = mul-le-mul l power in
    (omega arith, omega arith)

-- the first columns of a candidate begin it
pub begins : (problem : Problem) (T : List (List Sym)) (n : ℕ) → IsCandidate problem T
    → BeginsCandidate problem (take n T)
begins problem T n c = (drop n T, candidate_cut problem T n c)

-- kinds that ascend, of which each is told by its number, have numbers that differ
numbers_differ : (f : ℕ) (ks : List PrefixKind) → Ascends kind_order ks
    → ((k : PrefixKind) → Contains ks k → kind_of_number f (number_of_kind f k) ≡ k)
    → IsDistinct eqb (map (number_of_kind f) ks)
unfolding IsDistinct
numbers_differ f [] a h = tt
numbers_differ f (k ∷ ks) a h = (
  all_from_members (λ n. eqb (number_of_kind f k) n ≡ false) (map (number_of_kind f) ks) (λ n m.
      let r = contains_of_map (number_of_kind f) ks n m in
      let other : number_of_kind f k ≢ n = λ e.
      let same : k ≡ r.0 = sym (h k (contains_first k ks)) ∙ ap (kind_of_number f) (e ∙ sym r.1.1)
      ∙ h r.0 (contains_later k ks r.0 r.1.0) in
      not_before_itself k (ap (kind_order k) same ∙ all_at_member (λ l. kind_order k l ≡ Less) ks r.0 a.0 r.1.0) in
      ne_eqb (number_of_kind f k) n other),
  numbers_differ f ks a.1 (λ l m. h l (contains_later k ks l m)),
)

module _ (problem : Problem) (split : AreSplit problem.tiers) (distinct : AreDistinct problem.tiers.free)
    (form : IsForm problem.tiers problem.form) where
  -- each number is that of a kind that is passed
  pub passed_number : (i : ℕ) → i < kind_count problem
      → IsPassed problem 0 0 (kind_of_number (length problem.tiers.free) i)
  passed_number i l = let w = numbered_within problem i l in
      all_passed problem split distinct form.well_formed form.reduced
      (kind_of_number (length problem.tiers.free) i).place
      (kind_of_number (length problem.tiers.free) i).opened w.place w.flags

  passes_within : (k : PrefixKind) → IsPassed problem 0 0 k → IsWithin problem k
  passes_within k p = subst (IsWithin problem) p.passes.of_kind
      (kind_within problem split form (take p.columns p.candidate)
      (begins problem p.candidate p.columns p.passes.optimal.candidate))

  -- the kinds of all numbers are those of stage 0
  pub numbered_kinds : AreKindsOfStage problem 0
      (map (kind_of_number (length problem.tiers.free)) (range_with_len 0 (kind_count problem)))
  numbered_kinds = record {
    ascending = sorted_from kind_order _
        (ascends_map kind_order nat_cmp (kind_of_number (length problem.tiers.free))
        (range_with_len 0 (kind_count problem)) (λ i j l. kinds_less (length problem.tiers.free) i j (nat_less i j l))
        (ascends_range 0 (kind_count problem)));
    members = λ k. (
      λ c. let r = contains_of_map (kind_of_number (length problem.tiers.free))
          (range_with_len 0 (kind_count problem)) k c in
          let b = in_range 0 (kind_count problem) r.0 r.1.0 in
          subst (IsPassed problem 0 0) r.1.1 (passed_number r.0 (omega (arith, b.1))),
      λ p. let w = passes_within k p in
          let n = number_of_kind (length problem.tiers.free) k in
          subst (λ q. Contains (map (kind_of_number (length problem.tiers.free))
          (range_with_len 0 (kind_count problem))) q)
          (kind_of_number-number (length problem.tiers.free) k w.flags w.phases)
          (contains_map (kind_of_number (length problem.tiers.free)) (range_with_len 0 (kind_count problem)) n
          (range_has 0 (kind_count problem) n (omega arith) (omega (arith, number_within problem k w)))),
    );
  }

  -- stage 0 is the first that is over a budget of fewer kinds
  pub first_over : (budget : ℕ) → budget < kind_count problem → IsFirstOver problem budget 0
  first_over budget l =
      let f = length problem.tiers.free in
      record {
        stage = omega arith;
        over = record {
          kinds = map (kind_of_number f) (range_with_len 0 (kind_count problem));
          are = numbered_kinds;
          more = omega (
            arith,
            length-map (range_with_len 0 (kind_count problem)) (kind_of_number f),
            length-range_with_len 0 (kind_count problem),
          );
        };
        before = λ s h. absurd (omega arith);
        listed = λ s h. absurd (omega arith);
      }

-- a count of kinds by its places and its free tiers
pub counted_kinds : (n places free columns tiers : ℕ) → n ≡ places * 2 ^ free → places ≡ columns + 1 → free ≡ tiers
    → n ≡ (columns + 1) * 2 ^ tiers
counted_kinds n places free columns tiers e p f = e ∙ ap (λ m. m * 2 ^ free) p ∙ ap (λ m. (columns + 1) * 2 ^ m) f

-- what needs no value holds of the value in a result
pub whatever_ok : {X E : Type 0} (r : Result X E) (P : Type 0) → P → IfOk r (λ x. P)
whatever_ok (Ok x) P p = p
whatever_ok (Err e) P p = tt
