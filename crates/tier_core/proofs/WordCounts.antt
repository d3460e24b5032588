-- How many constituents of a well-formed word start at a place, end there, or have it inside.
use Rattle.std.proofs.Common.{◌≡◌, ℕ, zero, suc, ◌+◌, ◌<◌, ◌≤◌, Bool, true, false, ◌&&◌, cond, ltb, leb, eqb, List}
use Rattle.std.proofs.Common.{[], ◌∷◌, length, get_or, Option, Some, None, refl, sym, ap, ◌∙◌, arith}
use Rattle.std.proofs.lemmas.Bool.{false≢true, lt-ltb, le-ltb, le-leb, lt-leb, eq-eqb, ne_eqb, and_parts, and_left}
use Rattle.std.proofs.{lemmas.Bool.{and_right, and_from}, lemmas.Bool.Decides.nat_tests}
use Rattle.std.specs.{Prelude.{count_by, is_some}, List.AllByRecursion}
use Rattle.tier_core.specs.{declared.sym.Sym.Sym, declared.sym.Sym.TheVariants.{Outside, Inside, Start, End, Both}}
use Rattle.tier_core.specs.Words.{is_inside_sym, starts, ends, next_end, pair_to, constituents_from, constituents}
use Rattle.tier_core.specs.Scan.{fits, opens}
use Rattle.tier_core.proofs.CountLemmas.{bit, count_cons, count_append, count_none, count_split, all_append}
use Rattle.tier_core.proofs.{CountLemmas.all_weaker, WordLemmas.{runs, open_at, ended, ended_late, constituents_late}}
use Rattle.tier_core.proofs.WordLemmas.{next_end_late, runs_end, ended_are}

-- the pair starts before n columns are over, and ends after them
abbrev pub covers : ℕ → ℕ × ℕ → Bool
covers n c = ltb c.0 n && leb n c.1

one_pair : (i k : ℕ) (o : Option ℕ) → k ≡ i → is_some o ≡ true → count_by (λ c. eqb c.0 k) (pair_to i o) ≡ 1
one_pair i k None e h = absurd (false≢true h)
one_pair i k (Some j) e h =
    let here : bit (eqb i k) ≡ 1 = ap bit (eq-eqb i k (sym e)) in
    omega (arith, count_cons (λ (c : ℕ × ℕ). eqb c.0 k) (i, j) [], here)

pub starts_count : (b : Bool) (m q k : ℕ) (w : List Sym) → k ≡ m + q → runs b w ≡ true
    → count_by (λ c. eqb c.0 k) (constituents_from m w) ≡ bit (starts (get_or w q Outside))
starts_count b m q k [] e h = refl
starts_count b m zero k (s ∷ w) e h =
    let after : runs (opens s) w ≡ true = (and_parts (fits b s) (runs (opens s) w) h).1 in
    let rest : count_by (λ c. eqb c.0 k) (constituents_from (suc m) w) ≡ 0 =
    count_none _ _ (all_weaker _ _ _ (λ c a. ne_eqb c.0 k (λ x. omega arith)) (constituents_late (suc m) w)) in
    count_append _ (cond (starts s) (pair_to m (next_end (suc m) w)) []) (constituents_from (suc m) w)
    ∙ ap (λ n. count_by (λ c. eqb c.0 k) (cond (starts s) (pair_to m (next_end (suc m) w)) []) + n) rest ∙ own s after
  where
    own : (s : Sym) → runs (opens s) w ≡ true
        → count_by (λ c. eqb c.0 k) (cond (starts s) (pair_to m (next_end (suc m) w)) []) + 0 ≡ bit (starts s)
    own Outside a = refl
    own Inside a = refl
    own Start a = omega (arith, one_pair m k (next_end (suc m) w) (omega arith) (runs_end (suc m) w a))
    own End a = refl
    own Both a = omega (arith, one_pair m k (next_end (suc m) w) (omega arith) (runs_end (suc m) w a))
starts_count b m (suc q) k (s ∷ w) e h =
    let after : runs (opens s) w ≡ true = (and_parts (fits b s) (runs (opens s) w) h).1 in
    count_append _ (cond (starts s) (pair_to m (next_end (suc m) w)) []) (constituents_from (suc m) w)
    ∙ ap (λ n. n + count_by (λ c. eqb c.0 k) (constituents_from (suc m) w)) (own (starts s))
    ∙ starts_count_zero (starts_count (opens s) (suc m) q k w (omega arith) after)
  where
    own : (b : Bool) → count_by (λ c. eqb c.0 k) (cond b (pair_to m (next_end (suc m) w)) []) ≡ 0
    own true = count_none _ _ (all_weaker _ _ _ (λ c a. ne_eqb c.0 k (λ x. omega arith))
        (next_end_late m (suc m) w (omega arith)))
    own false = refl

    starts_count_zero : {x y : ℕ} → x ≡ y → 0 + x ≡ y
    starts_count_zero p = omega arith

-- one step of `ended`, counted
step : (p : ℕ × ℕ → Bool) (i m : ℕ) (s : Sym) (w : List Sym)
    → count_by p (ended i m (s ∷ w)) ≡ bit (ends s && p (i, m)) + count_by p (ended (cond (starts s) m i) (suc m) w)
step p i m Outside w = omega arith
step p i m Inside w = omega arith
step p i m Start w = omega arith
step p i m End w = count_cons p (i, m) (ended i (suc m) w)
step p i m Both w = count_cons p (i, m) (ended m (suc m) w)

next_start : (i m : ℕ) (b : Bool) → i ≤ m → cond b m i ≤ suc m
next_start i m true l = omega arith
next_start i m false l = omega arith

pub ends_count : (i m q k : ℕ) (w : List Sym) → k ≡ m + q → i ≤ m
    → count_by (λ c. eqb c.1 k) (ended i m w) ≡ bit (ends (get_or w q Outside))
ends_count i m q k [] e h = refl
ends_count i m zero k (s ∷ w) e h =
    let here : eqb m k ≡ true = eq-eqb m k (omega arith) in
    let rest : count_by (λ c. eqb c.1 k) (ended (cond (starts s) m i) (suc m) w) ≡ 0 =
    count_none _ _ (all_weaker _ _ _ (λ c a. ne_eqb c.1 k (λ x. omega arith))
    (ended_late (cond (starts s) m i) (suc m) w (next_start i m (starts s) h))) in
    step (λ c. eqb c.1 k) i m s w ∙ ap (λ n. bit (ends s && eqb m k) + n) rest ∙ (rw here (own (ends s)))
  where
    own : (b : Bool) → bit (b && true) + 0 ≡ bit b
    own true = refl
    own false = refl
ends_count i m (suc q) k (s ∷ w) e h =
    let here : eqb m k ≡ false = ne_eqb m k (λ x. omega arith) in
    let first : bit (ends s && eqb m k) ≡ 0 = ap bit (and_right (ends s) (eqb m k) here) in
    omega (
      arith,
      step (λ c. eqb c.1 k) i m s w,
      first,
      ends_count (cond (starts s) m i) (suc m) q k w (omega arith) (next_start i m (starts s) h),
    )

-- pairs that start at n or later
late_count : (i m n : ℕ) (w : List Sym) → n ≤ i → i ≤ m → count_by (covers n) (ended i m w) ≡ 0
late_count i m n w l g =
    count_none _ _ (all_weaker _ _ _ (λ c a. and_left (ltb c.0 n) (leb n c.1) (le-ltb c.0 n (omega arith)))
    (ended_late i m w g))

-- before any later place: only the pair that is open counts
open_count : (b : Bool) (i m n : ℕ) (w : List Sym) → runs b w ≡ true → (b ≡ true → i < n) → n ≤ m → i ≤ m
    → count_by (covers n) (ended i m w) ≡ bit b
open_count true i m n [] r h l g = absurd (false≢true r)
open_count false i m n [] r h l g = refl
open_count true i m n (Outside ∷ w) r h l g = absurd (false≢true r)
open_count true i m n (Inside ∷ w) r h l g = open_count true i (suc m) n w r h (omega arith) (omega arith)
open_count true i m n (Start ∷ w) r h l g = absurd (false≢true r)
open_count true i m n (End ∷ w) r h l g =
    let here : (ltb i n && leb n m) ≡ true = and_from (ltb i n) (leb n m) (lt-ltb i n (h refl)) (le-leb n m l) in
    let one : bit (ltb i n && leb n m) ≡ 1 = ap bit here in
    omega (
      arith,
      count_cons (covers n) (i, m) (ended i (suc m) w),
      one,
      open_count false i (suc m) n w r (λ x. absurd (false≢true x)) (omega arith) (omega arith),
    )
open_count true i m n (Both ∷ w) r h l g =
    let here : (ltb i n && leb n m) ≡ true = and_from (ltb i n) (leb n m) (lt-ltb i n (h refl)) (le-leb n m l) in
    let one : bit (ltb i n && leb n m) ≡ 1 = ap bit here in
    omega (arith, count_cons (covers n) (i, m) (ended m (suc m) w), one, late_count m (suc m) n w l (omega arith))
open_count false i m n (Outside ∷ w) r h l g = open_count false i (suc m) n w r h (omega arith) (omega arith)
open_count false i m n (Inside ∷ w) r h l g = absurd (false≢true r)
open_count false i m n (Start ∷ w) r h l g = late_count m (suc m) n w l (omega arith)
open_count false i m n (End ∷ w) r h l g = absurd (false≢true r)
open_count false i m n (Both ∷ w) r h l g = absurd (false≢true r)

-- a pair covers n columns exactly where the tier is open after them
pub covers_count : (b : Bool) (i m q n : ℕ) (w : List Sym) → n ≡ m + q → runs b w ≡ true → (b ≡ true → i < m) → i ≤ m
    → count_by (covers n) (ended i m w) ≡ bit (open_at b w q)
covers_count b i m zero n w e r h g = open_count b i m n w r (λ x. let lt : i < m = h x in omega arith) (omega arith) g
covers_count b i m (suc q) n [] e r h g = refl
covers_count b i m (suc q) n (s ∷ w) e r h g =
    let after : runs (opens s) w ≡ true = (and_parts (fits b s) (runs (opens s) w) r).1 in
    let here : leb n m ≡ false = lt-leb n m (omega arith) in
    let first : bit (ends s && (ltb i n && leb n m)) ≡ 0 =
    ap bit (and_right (ends s) (ltb i n && leb n m) (and_right (ltb i n) (leb n m) here)) in
    omega (
      arith,
      step (covers n) i m s w,
      first,
      covers_count (opens s) (cond (starts s) m i) (suc m) q n w (omega arith) after (next_open s)
          (next_start i m (starts s) g),
    )
  where
    next_open : (s : Sym) → opens s ≡ true → cond (starts s) m i < suc m
    next_open Outside x = omega arith
    next_open Inside x = omega arith
    next_open Start x = omega arith
    next_open End x = omega arith
    next_open Both x = omega arith

pub runs_fits : (b : Bool) (w : List Sym) (k : ℕ) → runs b w ≡ true → fits (open_at b w k) (get_or w k Outside) ≡ true
runs_fits true [] k r = absurd (false≢true r)
runs_fits false [] zero r = refl
runs_fits false [] (suc k) r = refl
runs_fits b (s ∷ w) zero r = (and_parts (fits b s) (runs (opens s) w) r).0
runs_fits b (s ∷ w) (suc k) r = runs_fits (opens s) w k (and_parts (fits b s) (runs (opens s) w) r).1

inside_of : (b : Bool) (s : Sym) → fits b s ≡ true → bit b ≡ bit (is_inside_sym s) + bit (ends s)
inside_of true Outside h = absurd (false≢true h)
inside_of true Inside h = refl
inside_of true Start h = absurd (false≢true h)
inside_of true End h = refl
inside_of true Both h = refl
inside_of false Outside h = refl
inside_of false Inside h = absurd (false≢true h)
inside_of false Start h = refl
inside_of false End h = absurd (false≢true h)
inside_of false Both h = absurd (false≢true h)

-- A pair covers k where it has k inside or ends there
covers_split : (i j k : ℕ) → i < j → bit (ltb i k && leb k j) ≡ bit (ltb i k && ltb k j) + bit (eqb j k)
covers_split i j k l = grind (arith, nat_tests)

module _ (w : List Sym) (r : runs false w ≡ true) where
  constituents_are : constituents w ≡ ended 0 0 w
  constituents_are = ended_are false 0 0 w r

  pub start_at : (k : ℕ) → count_by (λ c. eqb c.0 k) (constituents w) ≡ bit (starts (get_or w k Outside))
  start_at k = starts_count false 0 k k w (omega arith) r

  pub end_at : (k : ℕ) → count_by (λ c. eqb c.1 k) (constituents w) ≡ bit (ends (get_or w k Outside))
  end_at k = ap (count_by (λ c. eqb c.1 k)) constituents_are ∙ ends_count 0 0 k k w (omega arith) (omega arith)

  pub open_after : (n : ℕ) → count_by (covers n) (constituents w) ≡ bit (open_at false w n)
  open_after n = ap (count_by (covers n)) constituents_are
      ∙ covers_count false 0 0 n n w (omega arith) r (λ x. absurd (false≢true x)) (omega arith)

  pub inside_at : (k : ℕ) → count_by (λ c. ltb c.0 k && ltb k c.1) (constituents w)
      ≡ bit (is_inside_sym (get_or w k Outside))
  inside_at k =
      let split : count_by (covers k) (constituents w)
      ≡ count_by (λ c. ltb c.0 k && ltb k c.1) (constituents w) + count_by (λ c. eqb c.1 k) (constituents w) =
      count_split _ _ _ _ (all_weaker _ _ _ (λ c a. covers_split c.0 c.1 k a.1) (constituents_late 0 w)) in
      omega (
        arith,
        split,
        open_after k,
        end_at k,
        inside_of (open_at false w k) (get_or w k Outside) (runs_fits false w k r),
      )

next_end_within : (i m : ℕ) (w : List Sym) → AllByRecursion (λ c. c.1 < m + length w) (pair_to i (next_end m w))
next_end_within i m [] = tt
next_end_within i m (Outside ∷ w) = all_weaker _ _ _ (λ c a. omega arith) (next_end_within i (suc m) w)
next_end_within i m (Inside ∷ w) = all_weaker _ _ _ (λ c a. omega arith) (next_end_within i (suc m) w)
next_end_within i m (Start ∷ w) = all_weaker _ _ _ (λ c a. omega arith) (next_end_within i (suc m) w)
next_end_within i m (End ∷ w) = (omega arith, tt)
next_end_within i m (Both ∷ w) = (omega arith, tt)

-- each constituent ends within the word
pub constituents_within : (m : ℕ) (w : List Sym) → AllByRecursion (λ c. c.1 < m + length w) (constituents_from m w)
constituents_within m [] = tt
constituents_within m (s ∷ w) =
    all_append _ _ _ (own (starts s)) (all_weaker _ _ _ (λ c a. omega arith) (constituents_within (suc m) w))
  where
    own : (b : Bool) → AllByRecursion (λ c. c.1 < m + suc (length w)) (cond b (pair_to m (next_end (suc m) w)) [])
    own true = all_weaker _ _ _ (λ c a. omega arith) (next_end_within m (suc m) w)
    own false = tt
