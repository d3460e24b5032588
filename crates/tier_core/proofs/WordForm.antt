-- A word is well formed exactly where it reads well from left to right.
use Rattle.std.proofs.Common.{◌≡◌, ℕ, suc, ◌+◌, ◌<◌, ◌≤◌, Bool, true, false, ◌&&◌, ltb, eqb, List, [], ◌∷◌, ◌++◌}
use Rattle.std.proofs.Common.{length, get_or, Option, Some, None, refl, sym, ap, ◌∙◌, subst, arith}
use Rattle.std.proofs.lemmas.Bool.{false≢true, lt-ltb, le-ltb, eq-eqb, ne_eqb, and_left, and_right}
use Rattle.std.specs.{Prelude.is_some, List.AllByRecursion}
use Rattle.tier_core.specs.{declared.sym.Sym.Sym, declared.sym.Sym.TheVariants.{Outside, Inside, Start, End, Both}}
use Rattle.tier_core.specs.Words.{is_inside_sym, starts, ends, next_end, pair_to, constituents_from, constituents}
use Rattle.tier_core.specs.Words.{starts_at, ends_at, is_inside, symbol_of, drawn_symbol, NextFrom, AreDisjoint}
use Rattle.tier_core.specs.Words.{IsWellFormedWord}
use Rattle.tier_core.proofs.{CountLemmas.{any_none, any_from_count, all_weaker}, WordLemmas.{runs, pending, ended}}
use Rattle.tier_core.proofs.WordLemmas.{ended_late, constituents_late, next_end_late, ended_are}
use Rattle.tier_core.proofs.WordCounts.{start_at, end_at, inside_at}

next_from_all : (j : ℕ) (cs : List (ℕ × ℕ)) → AllByRecursion (λ c. j ≤ c.0) cs → NextFrom j cs
next_from_all j [] h = tt
next_from_all j (c ∷ cs) h = h.0

next_late : (i j m : ℕ) (w : List Sym) → runs false w ≡ true → j ≤ m → NextFrom j (ended i m w)
next_late i j m [] r l = tt
next_late i j m (Outside ∷ w) r l = next_late i j (suc m) w r (omega arith)
next_late i j m (Inside ∷ w) r l = absurd (false≢true r)
next_late i j m (Start ∷ w) r l = next_from_all j (ended m (suc m) w)
    (all_weaker _ _ _ (λ c a. omega arith) (ended_late m (suc m) w (omega arith)))
next_late i j m (End ∷ w) r l = absurd (false≢true r)
next_late i j m (Both ∷ w) r l = absurd (false≢true r)

ended_apart : (b : Bool) (i m : ℕ) (w : List Sym) → runs b w ≡ true → AreDisjoint (ended i m w)
ended_apart b i m [] r = tt
ended_apart true i m (Outside ∷ w) r = absurd (false≢true r)
ended_apart true i m (Inside ∷ w) r = ended_apart true i (suc m) w r
ended_apart true i m (Start ∷ w) r = absurd (false≢true r)
ended_apart true i m (End ∷ w) r = (next_late i m (suc m) w r (omega arith), ended_apart false i (suc m) w r)
ended_apart true i m (Both ∷ w) r = (
  next_from_all m (ended m (suc m) w) (all_weaker _ _ _ (λ c a. a.0) (ended_late m (suc m) w (omega arith))),
  ended_apart true m (suc m) w r,
)
ended_apart false i m (Outside ∷ w) r = ended_apart false i (suc m) w r
ended_apart false i m (Inside ∷ w) r = absurd (false≢true r)
ended_apart false i m (Start ∷ w) r = ended_apart true m (suc m) w r
ended_apart false i m (End ∷ w) r = absurd (false≢true r)
ended_apart false i m (Both ∷ w) r = absurd (false≢true r)

symbol_of_sym : (s : Sym) → s ≡ symbol_of (starts s) (ends s) (is_inside_sym s)
symbol_of_sym Outside = refl
symbol_of_sym Inside = refl
symbol_of_sym Start = refl
symbol_of_sym End = refl
symbol_of_sym Both = refl

pub well_formed_from_runs : (w : List Sym) → runs false w ≡ true → IsWellFormedWord w
well_formed_from_runs w r = record {
  begun = λ i l h. rw (starts_are i) h;
  apart = subst AreDisjoint (sym (ended_are false 0 0 w r)) (ended_apart false 0 0 w r);
  symbols = λ k l. rw (starts_are k, ends_are k, insides_are k) (symbol_of_sym (get_or w k Outside));
}
  where
    starts_are : (k : ℕ) → starts_at (constituents w) k ≡ starts (get_or w k Outside)
    starts_are k = any_from_count (λ c. eqb c.0 k) (constituents w) (starts (get_or w k Outside)) (start_at w r k)

    ends_are : (k : ℕ) → ends_at (constituents w) k ≡ ends (get_or w k Outside)
    ends_are k = any_from_count (λ c. eqb c.1 k) (constituents w) (ends (get_or w k Outside)) (end_at w r k)

    insides_are : (k : ℕ) → is_inside (constituents w) k ≡ is_inside_sym (get_or w k Outside)
    insides_are k = any_from_count (λ c. ltb c.0 k && ltb k c.1) (constituents w) (is_inside_sym (get_or w k Outside))
        (inside_at w r k)

-- constituents that start after m draw nothing there
module _ (m : ℕ) (w : List Sym) where
  far_start : starts_at (constituents_from (suc m) w) m ≡ false
  far_start = any_none _ _ (all_weaker _ _ _ (λ c a. ne_eqb c.0 m (λ x. omega arith)) (constituents_late (suc m) w))

  far_end : ends_at (constituents_from (suc m) w) m ≡ false
  far_end = any_none _ _ (all_weaker _ _ _ (λ c a. ne_eqb c.1 m (λ x. omega arith)) (constituents_late (suc m) w))

  far_inside : is_inside (constituents_from (suc m) w) m ≡ false
  far_inside = any_none _ _ (all_weaker _ _ _ (λ c a. and_left (ltb c.0 m) (ltb m c.1) (le-ltb c.0 m (omega arith)))
      (constituents_late (suc m) w))

  far : drawn_symbol (constituents_from (suc m) w) m ≡ Outside
  far = rw (far_start, far_end, far_inside) refl

  -- what stands at m, where a pair may start there
  start_here : (o : Option ℕ) (s : Sym) → s ≡ drawn_symbol (pair_to m o ++ constituents_from (suc m) w) m → starts s
      ≡ true
      → is_some o ≡ true
  start_here None s e h =
      let none : starts s ≡ false = ap starts (e ∙ far) in
      cc
  start_here (Some j) s e h = refl

  not_both : (o : Option ℕ) → AllByRecursion (λ c. (c.0 ≡ m) × (suc m ≤ c.1)) (pair_to m o)
      → Both ≡ drawn_symbol (pair_to m o ++ constituents_from (suc m) w) m → ⊥
  not_both None a e = let x : Both ≡ Outside = e ∙ far in cc
  not_both (Some j) a e =
      let here : eqb m m ≡ true = eq-eqb m m refl in
      let there : eqb j m ≡ false = ne_eqb j m (λ x. omega arith) in
      let x : drawn_symbol ((m, j) ∷ constituents_from (suc m) w) m ≡ Start = rw (here, there, far_end) refl in
      let y : Both ≡ Start = e ∙ x in
      cc

  -- where a pair is open, the place is not outside
  not_outside : (i : ℕ) (o : Option ℕ) → i < m → is_some o ≡ true
      → AllByRecursion (λ c. (c.0 ≡ i) × (suc m ≤ c.1)) (pair_to i o)
      → Outside ≡ drawn_symbol (pair_to i o ++ constituents_from (suc m) w) m → ⊥
  not_outside i None l h a e = false≢true h
  not_outside i (Some j) l h a e =
      let here : eqb i m ≡ false = ne_eqb i m (λ x. omega arith) in
      let there : eqb j m ≡ false = ne_eqb j m (λ x. omega arith) in
      let low : ltb i m ≡ true = lt-ltb i m l in
      let high : ltb m j ≡ true = lt-ltb m j (omega arith) in
      let x : drawn_symbol ((i, j) ∷ constituents_from (suc m) w) m
      ≡ Inside = rw (here, there, low, high, far_start, far_end) refl in
      let y : Outside ≡ Inside = e ∙ x in
      cc

  not_started : (i : ℕ) (o : Option ℕ) (cs : List (ℕ × ℕ)) → is_some o ≡ true
      → AllByRecursion (λ c. (c.0 ≡ i) × (suc m ≤ c.1)) (pair_to i o)
      → AllByRecursion (λ c. (c.0 ≡ m) × (suc m ≤ c.1)) (pair_to m o)
      → AreDisjoint (pair_to i o ++ (pair_to m o ++ cs)) → ⊥
  not_started i None cs h a b e = false≢true h
  not_started i (Some j) cs h a b e = omega arith

-- a pair that has ended draws nothing later
past : (i m p : ℕ) (cs : List (ℕ × ℕ)) → i < m → m < p → drawn_symbol ((i, m) ∷ cs) p ≡ drawn_symbol cs p
past i m p cs l g =
    let start : eqb i p ≡ false = ne_eqb i p (λ x. omega arith) in
    let end : eqb m p ≡ false = ne_eqb m p (λ x. omega arith) in
    let inside : (ltb i p && ltb p m) ≡ false = and_right (ltb i p) (ltb p m) (le-ltb p m (omega arith)) in
    rw (start, end, inside) refl

-- a pair that ends at m does not start there
past_start : (i m : ℕ) (o : Option ℕ) (w : List Sym) → i < m
    → Both ≡ drawn_symbol ((i, m) ∷ (pair_to m o ++ constituents_from (suc m) w)) m → is_some o ≡ true
past_start i m None w l e =
    let start : eqb i m ≡ false = ne_eqb i m (λ x. omega arith) in
    let end : eqb m m ≡ true = eq-eqb m m refl in
    let x : drawn_symbol ((i, m) ∷ constituents_from (suc m) w) m ≡ End = rw (start, end, far_start m w) refl in
    let y : Both ≡ End = e ∙ x in
    cc
past_start i m (Some j) w l e = refl

runs_from : (b : Bool) (i m : ℕ) (w : List Sym) → (b ≡ true → i < m) → (b ≡ true → is_some (next_end m w) ≡ true)
    → AreDisjoint (pending b i m w) → ((k p : ℕ) → k < length w → p ≡ m + k
    → get_or w k Outside ≡ drawn_symbol (pending b i m w) p)
    → runs b w ≡ true
runs_from true i m [] l h a d = h refl
runs_from false i m [] l h a d = refl
runs_from true i m (Outside ∷ w) l h a d =
    absurd (not_outside m w i (next_end (suc m) w) (l refl) (h refl)
    (next_end_late i (suc m) w (let lt : i < m = l refl in omega arith)) (d 0 m (omega arith) (omega arith)))
runs_from true i m (Inside ∷ w) l h a d =
    runs_from true i (suc m) w (λ x. let lt : i < m = l x in omega arith) h a
    (λ k p g e. d (suc k) p (omega arith) (omega arith))
runs_from true i m (Start ∷ w) l h a d =
    absurd (not_started m w i (next_end (suc m) w) (constituents_from (suc m) w) (h refl)
    (next_end_late i (suc m) w (let lt : i < m = l refl in omega arith)) (next_end_late m (suc m) w (omega arith)) a)
runs_from true i m (End ∷ w) l h a d =
    runs_from false i (suc m) w (λ x. absurd (false≢true x)) (λ x. absurd (false≢true x)) a.1
    (λ k p g e. d (suc k) p (omega arith) (omega arith)
    ∙ past i m p (constituents_from (suc m) w) (l refl) (omega arith))
runs_from true i m (Both ∷ w) l h a d =
    runs_from true m (suc m) w (λ x. omega arith)
    (λ x. past_start i m (next_end (suc m) w) w (l refl) (d 0 m (omega arith) (omega arith))) a.1
    (λ k p g e. d (suc k) p (omega arith) (omega arith) ∙ past i m p (pending true m (suc m) w) (l refl) (omega arith))
runs_from false i m (Outside ∷ w) l h a d =
    runs_from false i (suc m) w (λ x. absurd (false≢true x)) (λ x. absurd (false≢true x)) a
    (λ k p g e. d (suc k) p (omega arith) (omega arith))
runs_from false i m (Inside ∷ w) l h a d =
    let x : Inside ≡ Outside = d 0 m (omega arith) (omega arith) ∙ far m w in cc
runs_from false i m (Start ∷ w) l h a d =
    runs_from true m (suc m) w (λ x. omega arith)
    (λ x. start_here m w (next_end (suc m) w) Start (d 0 m (omega arith) (omega arith)) refl) a
    (λ k p g e. d (suc k) p (omega arith) (omega arith))
runs_from false i m (End ∷ w) l h a d =
    let x : End ≡ Outside = d 0 m (omega arith) (omega arith) ∙ far m w in cc
runs_from false i m (Both ∷ w) l h a d =
    absurd (not_both m w (next_end (suc m) w) (next_end_late m (suc m) w (omega arith))
    (d 0 m (omega arith) (omega arith)))

pub runs_from_well_formed : (w : List Sym) → IsWellFormedWord w → runs false w ≡ true
runs_from_well_formed w h =
    runs_from false 0 0 w (λ x. absurd (false≢true x)) (λ x. absurd (false≢true x)) h.apart
    (λ k p l e. let same : k ≡ p = omega arith in subst
    (λ (q : ℕ). get_or w k Outside ≡ drawn_symbol (constituents w) q) same (h.symbols k l))
