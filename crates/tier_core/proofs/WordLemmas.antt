-- The constituents of a word that reads well from left to right.
use Rattle.std.proofs.Common.{◌≡◌, ℕ, zero, suc, ◌<◌, ◌≤◌, Bool, true, false, not, ◌&&◌, cond, List, [], ◌∷◌, ◌++◌}
use Rattle.std.proofs.{Common.{refl, ap, arith, length, get_or}, lemmas.Bool.false≢true}
use Rattle.std.specs.{Prelude.is_some, List.AllByRecursion}
use Rattle.tier_core.specs.{declared.sym.Sym.Sym, declared.sym.Sym.TheVariants.{Outside, Inside, Start, End, Both}}
use Rattle.tier_core.specs.{Words.{starts, ends, next_end, pair_to, constituents_from}, Scan.{fits, opens}}
use Rattle.tier_core.proofs.CountLemmas.{all_append, all_weaker}

-- the rest of a word fits, from a state in which the tier is open or not, and closes it at the end
abbrev pub runs : Bool → List Sym → Bool
runs b [] = not b
runs b (s ∷ w) = fits b s && runs (opens s) w

-- whether the tier is open after q symbols
abbrev pub open_at : Bool → List Sym → ℕ → Bool
open_at b w zero = b
open_at b [] (suc q) = false
open_at b (s ∷ w) (suc q) = open_at (opens s) w q

pub open_suc : (b : Bool) (w : List Sym) (q : ℕ) → q < length w → open_at b w (suc q) ≡ opens (get_or w q Outside)
open_suc b [] q l = absurd (omega arith)
open_suc b (s ∷ w) zero l = refl
open_suc b (s ∷ w) (suc q) l = open_suc (opens s) w q (omega arith)

-- the constituents in the order of their ends, where one that started at i may be open
abbrev pub ended : ℕ → ℕ → List Sym → List (ℕ × ℕ)
ended i m [] = []
ended i m (s ∷ w) = cond (ends s) ((i, m) ∷ []) [] ++ ended (cond (starts s) m i) (suc m) w

-- the constituents whose ends are still to come
abbrev pub pending : Bool → ℕ → ℕ → List Sym → List (ℕ × ℕ)
pending b i m w = cond b (pair_to i (next_end m w)) [] ++ constituents_from m w

pub ended_are : (b : Bool) (i m : ℕ) (w : List Sym) → runs b w ≡ true → pending b i m w ≡ ended i m w
ended_are true i m [] h = absurd (false≢true h)
ended_are false i m [] h = refl
ended_are true i m (Outside ∷ w) h = absurd (false≢true h)
ended_are true i m (Inside ∷ w) h = ended_are true i (suc m) w h
ended_are true i m (Start ∷ w) h = absurd (false≢true h)
ended_are true i m (End ∷ w) h = ap (λ cs. (i, m) ∷ cs) (ended_are false i (suc m) w h)
ended_are true i m (Both ∷ w) h = ap (λ cs. (i, m) ∷ cs) (ended_are true m (suc m) w h)
ended_are false i m (Outside ∷ w) h = ended_are false i (suc m) w h
ended_are false i m (Inside ∷ w) h = absurd (false≢true h)
ended_are false i m (Start ∷ w) h = ended_are true m (suc m) w h
ended_are false i m (End ∷ w) h = absurd (false≢true h)
ended_are false i m (Both ∷ w) h = absurd (false≢true h)

-- a place that is found is one of those searched
pub next_end_late : (i m : ℕ) (w : List Sym) → i < m
    → AllByRecursion (λ c. (c.0 ≡ i) × (m ≤ c.1)) (pair_to i (next_end m w))
next_end_late i m [] h = tt
next_end_late i m (Outside ∷ w) h = all_weaker _ _ _ (λ c a. (a.0, omega arith))
    (next_end_late i (suc m) w (omega arith))
next_end_late i m (Inside ∷ w) h = all_weaker _ _ _ (λ c a. (a.0, omega arith))
    (next_end_late i (suc m) w (omega arith))
next_end_late i m (Start ∷ w) h = all_weaker _ _ _ (λ c a. (a.0, omega arith)) (next_end_late i (suc m) w (omega arith))
next_end_late i m (End ∷ w) h = ((refl, omega arith), tt)
next_end_late i m (Both ∷ w) h = ((refl, omega arith), tt)

-- each constituent starts at m or later, and ends after its start
pub constituents_late : (m : ℕ) (w : List Sym) → AllByRecursion (λ c. (m ≤ c.0) × (c.0 < c.1)) (constituents_from m w)
constituents_late m [] = tt
constituents_late m (s ∷ w) =
    all_append _ _ _ (own s) (all_weaker _ _ _ (λ c a. (omega arith, a.1)) (constituents_late (suc m) w))
  where
    own : (s : Sym) → AllByRecursion (λ c. (m ≤ c.0) × (c.0 < c.1))
        (cond (starts s) (pair_to m (next_end (suc m) w)) [])
    own Outside = tt
    own Inside = tt
    own Start = all_weaker _ _ _ (λ c a. (omega arith, omega arith)) (next_end_late m (suc m) w (omega arith))
    own End = tt
    own Both = all_weaker _ _ _ (λ c a. (omega arith, omega arith)) (next_end_late m (suc m) w (omega arith))

-- where a tier is open, its end comes
pub runs_end : (m : ℕ) (w : List Sym) → runs true w ≡ true → is_some (next_end m w) ≡ true
runs_end m [] h = h
runs_end m (Outside ∷ w) h = absurd (false≢true h)
runs_end m (Inside ∷ w) h = runs_end (suc m) w h
runs_end m (Start ∷ w) h = absurd (false≢true h)
runs_end m (End ∷ w) h = refl
runs_end m (Both ∷ w) h = refl

pub ended_late : (i m : ℕ) (w : List Sym) → i ≤ m → AllByRecursion (λ c. (i ≤ c.0) × (m ≤ c.1)) (ended i m w)
ended_late i m [] h = tt
ended_late i m (Outside ∷ w) h = all_weaker _ _ _ (λ c a. (omega arith, omega arith))
    (ended_late i (suc m) w (omega arith))
ended_late i m (Inside ∷ w) h = all_weaker _ _ _ (λ c a. (omega arith, omega arith))
    (ended_late i (suc m) w (omega arith))
ended_late i m (Start ∷ w) h = all_weaker _ _ _ (λ c a. (omega arith, omega arith))
    (ended_late m (suc m) w (omega arith))
ended_late i m (End ∷ w) h = (
  (omega arith, omega arith),
  all_weaker _ _ _ (λ c a. (omega arith, omega arith)) (ended_late i (suc m) w (omega arith)),
)
ended_late i m (Both ∷ w) h = (
  (omega arith, omega arith),
  all_weaker _ _ _ (λ c a. (omega arith, omega arith)) (ended_late m (suc m) w (omega arith)),
)
