-- What the examples are proved by: tests that compute.
use Rattle.std.proofs.Common.{◌≡◌, ℕ, zero, suc, ◌+◌, ◌<◌, ◌≤◌, Bool, true, false, List, [], ◌∷◌, ◌++◌, map, take}
use Rattle.std.proofs.Common.{drop, length, get_or, refl, sym, ap, ◌∙◌, arith, count_by, ◌&&◌, codes, String}
use Rattle.std.proofs.Common.{Contains, subst, Less, Greater, is_gt, is_le, Equal, cond, ltb, eqb, lt-ltb, le-ltb}
use Rattle.std.proofs.Common.{ne_eqb, take-append-drop, length-append}
use Rattle.std.proofs.{lemmas.Bool.{false≢true, and_parts, true_from_ne_false}, lemmas.List.Folds.list_all_at}
use Rattle.std.proofs.lemmas.List.FromFn.{length-range_with_len, get_or-range_with_len}
use Rattle.std.specs.{List.{AllByRecursion, list_all, range_with_len}, declared.alloc.Global.Global}
use Rattle.std.specs.{Ordering.ordering_then, List.Sorted.IsStrictlySortedBy}
use Rattle.tier_core.specs.{declared.sym.Sym.Sym, Words.IsWellFormedWord}
use Rattle.tier_core.specs.{Timelines.{tier_word, IsWellFormed, IsReduced, project, squeeze}, Events.events}
use Rattle.tier_core.specs.{Kinds.PrefixKind, declared.constraint.Constraint.Constraint, declared.event.Event.Event}
use Rattle.tier_core.specs.{declared.constraint.Family.Family, declared.constraint.Family.TheVariants.Implication}
use Rattle.tier_core.proofs.{CountLemmas.{bit, count_cons}, WordLemmas.runs, WordForm.well_formed_from_runs}
use Rattle.violation.specs.Candidates.{IsCandidate, IsAtMost, vec, IsOptimalFor, IsLeastVector}
use Rattle.violation.specs.{Counts.{viol, so_far, choices, choice_types, violations_of}, Prefixes.is_open}
use Rattle.violation.specs.Stages.{Passes, IsKindOfStage, AreKindsOfStage, IsRemaining}
use Rattle.violation.specs.Examples.{two_tiers, timeline, types, max_a, read_kind, over_two}
use Rattle.violation.proofs.{PrefixLemmas.{input_part, input_append}, WholeCounts.so_far_none}

pub right_words : (ws : List (List Sym)) → list_all (runs false) ws ≡ true → AllByRecursion IsWellFormedWord ws
right_words [] h = tt
right_words (w ∷ ws) h = let parts : (runs false w ≡ true) × (list_all (runs false) ws ≡ true) = and_parts _ _ h in
    (well_formed_from_runs w parts.0, right_words ws parts.1)

all_below : (p : ℕ → Bool) (n : ℕ) → list_all p (range_with_len 0 n) ≡ true → (t : ℕ) → t < n → p t ≡ true
all_below p n h t l =
    true_from_ne_false (p t) (λ f. false≢true
    (sym (list_all_at p (range_with_len 0 n) t 0 (omega (arith, length-range_with_len 0 n))
    (ap p (get_or-range_with_len 0 n t 0 l ∙ omega arith) ∙ f)) ∙ h))

pub right_timeline : (width : ℕ) (T : List (List Sym)) → AllByRecursion (λ column. length column ≡ width) T
    → list_all (λ t. runs false (tier_word T t)) (range_with_len 0 width) ≡ true → IsWellFormed width T
right_timeline width T w h = record {
  one_width = w;
  each_tier = λ t l. well_formed_from_runs (tier_word T t) (all_below (λ t. runs false (tier_word T t)) width h t l);
}

pub right_candidate : (constraints : List Constraint) (u T : List (List Sym))
    → AllByRecursion (λ column. length column ≡ 2) T
    → list_all (λ t. runs false (tier_word T t)) (range_with_len 0 2) ≡ true → IsReduced T
    → squeeze (project (0 ∷ []) T) ≡ u → IsCandidate (over_two constraints u) T
right_candidate constraints u T w h r i = record { well_formed = right_timeline 2 T w h; reduced = r; input = i }

-- the form of one constituent, the candidate that has it whole, and the one that has nothing
abbrev one : List (List Sym)
one = timeline (codes "[ ]")

abbrev whole : List (List Sym)
whole = timeline (codes "[[ ]]")

abbrev nothing : List (List Sym)
nothing = timeline (codes "[- ]-")

whole_candidate : (constraints : List Constraint) → IsCandidate (over_two constraints one) whole
whole_candidate constraints = right_candidate constraints one whole (refl, (refl, tt)) refl (refl, (refl, tt)) refl

whole_counts : (name : String Global) → vec (max_a name ∷ []) whole ≡ 0 ∷ []
unfolding viol
whole_counts name = refl

nothing_counts : (name : String Global) → vec (max_a name ∷ []) nothing ≡ 1 ∷ []
unfolding viol
nothing_counts name = refl

zero_least : (n : ℕ) → IsAtMost (0 ∷ []) (n ∷ [])
zero_least zero = refl
zero_least (suc n) = rw (lt-ltb 0 (suc n) (omega arith)) refl

zero_alone : (n : ℕ) → IsAtMost (n ∷ []) (0 ∷ []) → n ≡ 0
zero_alone zero h = refl
zero_alone (suc n) h =
    let a : ltb (suc n) 0 ≡ false = le-ltb (suc n) 0 (omega arith) in
    let b : eqb (suc n) 0 ≡ false = ne_eqb (suc n) 0 (λ e. omega (arith, e)) in
    absurd (false≢true (sym (ap (λ c. is_le
    (ordering_then (cond c Less (cond (eqb (suc n) 0) Equal Greater)) Equal)) a
    ∙ ap (λ c. is_le (ordering_then (cond c Equal Greater) Equal)) b) ∙ h))

pub whole_optimal : (name : String Global) → IsOptimalFor (over_two (max_a name ∷ []) one) 1 whole
whole_optimal name = record {
  candidate = whole_candidate (max_a name ∷ []);
  least = λ U c. subst (λ v. IsAtMost (take 1 v) (take 1 (vec (max_a name ∷ []) U))) (sym (whole_counts name))
      (zero_least (violations_of (max_a name) U));
}

pub none_not_optimal : (name : String Global) → IsOptimalFor (over_two (max_a name ∷ []) one) 1 nothing → ⊥
none_not_optimal name o =
    let at : IsAtMost (take 1 (vec (max_a name ∷ []) nothing)) (take 1 (vec (max_a name ∷ []) whole)) = o.least whole
    (whole_candidate (max_a name ∷ [])) in
    false≢true (subst (λ v. IsAtMost (1 ∷ []) (take 1 v)) (whole_counts name)
    (subst (λ v. IsAtMost (take 1 v) (take 1 (vec (max_a name ∷ []) whole))) (nothing_counts name) at))

pub least_is_none : (name : String Global) → IsLeastVector (over_two (max_a name ∷ []) one) (0 ∷ [])
least_is_none name = record {
  some = (whole, (whole_optimal name, whole_counts name));
  shared = λ T o.
      ap (λ (n : ℕ). n ∷ []) (zero_alone (violations_of (max_a name) T)
      (subst (λ v. IsAtMost (take 1 (vec (max_a name ∷ []) T)) (take 1 v)) (whole_counts name)
      (o.least whole (whole_candidate (max_a name ∷ [])))));
}

pub least_not_one : (name : String Global) → IsLeastVector (over_two (max_a name ∷ []) one) (1 ∷ []) → ⊥
least_not_one name l =
    let same : 0 ∷ [] ≡ 1 ∷ [] = sym (whole_counts name) ∙ l.shared whole (whole_optimal name) in
    let wrong : 0 ≡ 1 = ap (λ (v : List ℕ). get_or v 0 0) same in
    omega (arith, wrong)

-- what is counted so far is at most what is counted
count_fewer : {X : Type 0} (p q : X → Bool) (xs : List X) → count_by (λ x. p x && q x) xs ≤ count_by p xs
count_fewer p q [] = omega arith
count_fewer p q (x ∷ xs) =
    let a : count_by (λ x. p x && q x) (x ∷ xs)
    ≡ bit (p x && q x) + count_by (λ x. p x && q x) xs = count_cons (λ x. p x && q x) x xs in
    let b : count_by p (x ∷ xs) ≡ bit (p x) + count_by p xs = count_cons p x xs in
    omega (arith, a, b, fewer (p x) (q x), count_fewer p q xs)
  where
    fewer : (b c : Bool) → bit (b && c) ≤ bit b
    fewer true true = omega arith
    fewer true false = omega arith
    fewer false c = omega arith

pub so_far_within : (family : Family) (left right : List Event) (T : List (List Sym)) (n : ℕ)
    → so_far family left right T n ≤ viol family left right T
unfolding so_far viol
so_far_within family left right T n = count_fewer _ _ (choices (map (events T) (choice_types family left right)))

abbrev start : PrefixKind
start = read_kind 0 (codes "-") (codes ".")

whole_passes : (name : String Global) → Passes (over_two (max_a name ∷ []) one) 0 1 start whole 0
whole_passes name = record {
  optimal = record { candidate = whole_candidate (max_a name ∷ []); least = λ U c. refl };
  within = omega arith;
  of_kind = refl;
}

pub nothing_remains : (name : String Global) → IsRemaining (over_two (max_a name ∷ []) one) 1 start 0
nothing_remains name = record {
  some = (
    whole,
    (
      0,
      (
        whole_passes name,
        omega (
          arith,
          ap (λ (v : List ℕ). get_or v 0 0) (whole_counts name),
          so_far_none Implication (types (codes "Aa") (codes "A")) (types (codes "Aa") (codes "a")) whole,
        ),
      ),
    ),
  );
  least = λ T n p.
      let l : so_far Implication (types (codes "Aa") (codes "A"))
      (types (codes "Aa") (codes "a")) T n ≤ viol Implication (types (codes "Aa") (codes "A"))
      (types (codes "Aa") (codes "a")) T =
      so_far_within Implication (types (codes "Aa") (codes "A")) (types (codes "Aa") (codes "a")) T n in
      omega arith;
}

pub not_one_remains : (name : String Global) → IsRemaining (over_two (max_a name ∷ []) one) 1 start 1 → ⊥
not_one_remains name r =
    let least : so_far Implication (types (codes "Aa") (codes "A"))
    (types (codes "Aa") (codes "a")) whole 0 + 1 ≤ viol Implication (types (codes "Aa") (codes "A"))
    (types (codes "Aa") (codes "a")) whole =
    r.least whole 0 (whole_passes name) in
    let none : viol Implication (types (codes "Aa") (codes "A")) (types (codes "Aa") (codes "a")) whole
    ≡ 0 = ap (λ (v : List ℕ). get_or v 0 0) (whole_counts name) in
    omega (arith, least, none)

pub nothing_candidate : IsCandidate (over_two [] []) []
nothing_candidate = right_candidate [] [] [] tt refl tt refl

-- the candidate of the empty form that has one overt constituent
abbrev alone : List (List Sym)
alone = timeline (codes "-[ -]")

alone_candidate : IsCandidate (over_two [] []) alone
alone_candidate = right_candidate [] [] alone (refl, (refl, tt)) refl (refl, (refl, tt)) refl

-- the kind of place 0 with this flag
abbrev flagged : Bool → PrefixKind
flagged b = record { place = 0; opened = b ∷ []; phases = [] }

is_passed : (b : Bool) → IsKindOfStage (over_two [] []) 0 (flagged b)
is_passed false = record {
  candidate = [];
  columns = 0;
  passes = record {
    optimal = record { candidate = nothing_candidate; least = λ U c. refl };
    within = omega arith;
    of_kind = refl;
  };
}
is_passed true = record {
  candidate = alone;
  columns = 1;
  passes = record {
    optimal = record { candidate = alone_candidate; least = λ U c. refl };
    within = omega arith;
    of_kind = refl;
  };
}

-- a prefix of a candidate of the empty form has read nothing
place_none : (T : List (List Sym)) (n : ℕ) → squeeze (project (0 ∷ []) T) ≡ []
    → length (squeeze (project (0 ∷ []) (take n T))) ≡ 0
place_none T n h =
    let parts : input_part two_tiers T ≡ input_part two_tiers (take n T) ++ input_part two_tiers (drop n T) =
    ap (input_part two_tiers) (sym (take-append-drop n T)) ∙ input_append two_tiers (take n T) (drop n T) in
    omega (
      arith,
      ap length h,
      ap length parts,
      length-append (input_part two_tiers (take n T)) (input_part two_tiers (drop n T)),
    )

kind_is : (k : PrefixKind) → IsKindOfStage (over_two [] []) 0 k → (b : Bool) × (flagged b ≡ k)
kind_is k p =
    let T = p.candidate in
    let n = p.columns in
    let none : length (squeeze (project (0 ∷ []) (take n T))) ≡ 0 = place_none T n p.passes.optimal.candidate.input in (
      is_open (tier_word (take n T) 1),
      ap (λ (m : ℕ). let k : PrefixKind = record
          { place = m; opened = is_open (tier_word (take n T) 1) ∷ []; phases = [] } in k) (sym none)
          ∙ p.passes.of_kind,
    )

pub not_place_one : IsKindOfStage (over_two [] []) 0 (read_kind 1 (codes "-") []) → ⊥
not_place_one p = let e : 0 ≡ 1 = ap (λ (k : PrefixKind). k.place) (kind_is _ p).1 in omega (arith, e)

pub empty_kinds : AreKindsOfStage (over_two [] []) 0 (flagged false ∷ flagged true ∷ [])
unfolding IsStrictlySortedBy
empty_kinds = record {
  ascending = ((refl, tt), (tt, tt));
  members = λ k. (member k, λ p. let at : (b : Bool) × (flagged b ≡ k) = kind_is k p in listed k at.0 at.1);
}
  where
    listed : (k : PrefixKind) (b : Bool) → flagged b ≡ k → Contains (flagged false ∷ flagged true ∷ []) k
    listed k false e = (0, omega arith, e)
    listed k true e = (1, omega arith, e)

    at_index : (k : PrefixKind) (i : ℕ) → i < 2 → get_or (flagged false ∷ flagged true ∷ []) i k ≡ k
        → IsKindOfStage (over_two [] []) 0 k
    at_index k zero l e = subst (IsKindOfStage (over_two [] []) 0) e (is_passed false)
    at_index k (suc zero) l e = subst (IsKindOfStage (over_two [] []) 0) e (is_passed true)
    at_index k (suc (suc i)) l e = absurd (omega arith)

    member : (k : PrefixKind) → Contains (flagged false ∷ flagged true ∷ []) k → IsKindOfStage (over_two [] []) 0 k
    member k c = at_index k c.0 c.1 c.2

pub not_closed_alone : AreKindsOfStage (over_two [] []) 0 (flagged false ∷ []) → ⊥
not_closed_alone a = at (a.members (flagged true)).1
  where
    at_index : (i : ℕ) → i < 1 → get_or (flagged false ∷ []) i (flagged true) ≡ flagged true → ⊥
    at_index zero l e = false≢true (ap (λ (k : PrefixKind). get_or k.opened 0 false) e)
    at_index (suc i) l e = omega arith

    at : (IsKindOfStage (over_two [] []) 0 (flagged true) → Contains (flagged false ∷ []) (flagged true)) → ⊥
    at f = let c : Contains (flagged false ∷ []) (flagged true) = f (is_passed true) in at_index c.0 c.1 c.2

greater_is : {A : Type 0} → Greater ≡ Less → A
greater_is e = absurd (false≢true (ap (λ o. is_gt o) (sym e)))

pub not_open_first : AreKindsOfStage (over_two [] []) 0 (flagged true ∷ flagged false ∷ []) → ⊥
unfolding IsStrictlySortedBy
not_open_first a = greater_is a.ascending.0.0
