-- Which tiers are open after the first columns.
use Rattle.std.proofs.Common.{◌≡◌, ℕ, zero, suc, ◌≤◌, Bool, true, false, not, ◌&&◌, ◌||◌, List, [], ◌∷◌, ◌++◌, take}
use Rattle.std.proofs.{Common.{length, refl, sym, ap, ◌∙◌, arith}, lemmas.List.take-map}
use Rattle.std.proofs.lemmas.Bool.{false≢true, and_parts, and_from, not-true, not_from_false}
use Rattle.std.specs.List.{list_any}
use Rattle.tier_core.specs.{declared.sym.Sym.Sym, declared.sym.Sym.TheVariants.{Outside, Inside, Start, End, Both}}
use Rattle.tier_core.specs.{Scan.{fits, opens}, Timelines.{tier_word, symbol}, Words.ends}
use Rattle.tier_core.proofs.{WordLemmas.{runs, open_at}, Bools.and_grouped}
use Rattle.violation.specs.Prefixes.{is_open}

-- the symbols fit, and the tier may be open at the end
abbrev pub reads : Bool → List Sym → Bool
reads b [] = true
reads b (s ∷ w) = fits b s && reads (opens s) w

pub reads_take : (b : Bool) (w : List Sym) (n : ℕ) → runs b w ≡ true → reads b (take n w) ≡ true
reads_take b w zero r = refl
reads_take b [] (suc n) r = refl
reads_take b (s ∷ w) (suc n) r =
    let parts : (fits b s ≡ true) × (runs (opens s) w ≡ true) = and_parts _ _ r in
    and_from _ _ parts.0 (reads_take (opens s) w n parts.1)

pub open_read : (b : Bool) (w : List Sym) → reads b w ≡ true
    → ((b && not (list_any ends w)) || is_open w) ≡ open_at b w (length w)
open_read true [] r = refl
open_read false [] r = refl
open_read true (Outside ∷ w) r = absurd (false≢true r)
open_read true (Inside ∷ w) r = open_read true w r
open_read true (Start ∷ w) r = absurd (false≢true r)
open_read true (End ∷ w) r = open_read false w r
open_read true (Both ∷ w) r = open_read true w r
open_read false (Outside ∷ w) r = open_read false w r
open_read false (Inside ∷ w) r = absurd (false≢true r)
open_read false (Start ∷ w) r = open_read true w r
open_read false (End ∷ w) r = absurd (false≢true r)
open_read false (Both ∷ w) r = absurd (false≢true r)

pub open_at_take : (b : Bool) (w : List Sym) (n : ℕ) → n ≤ length w
    → open_at b (take n w) (length (take n w)) ≡ open_at b w n
open_at_take b w zero l = refl
open_at_take b [] (suc n) l = absurd (omega arith)
open_at_take b (s ∷ w) (suc n) l = open_at_take (opens s) w n (omega arith)

-- what has begun and not ended in n columns is what is open after them
pub prefix_open : (w : List Sym) (n : ℕ) → runs false w ≡ true → n ≤ length w → is_open (take n w) ≡ open_at false w n
prefix_open w n r l = open_read false (take n w) (reads_take false w n r) ∙ open_at_take false w n l

pub take_word : (T : List (List Sym)) (n t : ℕ) → tier_word (take n T) t ≡ take n (tier_word T t)
take_word T n t = sym (take-map (λ column. symbol column t) n T)

pub runs_append : (b : Bool) (p q : List Sym) → runs b (p ++ q) ≡ (reads b p && runs (open_at b p (length p)) q)
runs_append b [] q = refl
runs_append b (s ∷ p) q = ap (λ r. fits b s && r) (runs_append (opens s) p q)
    ∙ and_grouped (fits b s) (reads (opens s) p) (runs (open_at (opens s) p (length p)) q)

pub reads_append : (b : Bool) (p q : List Sym) → reads b (p ++ q) ≡ (reads b p && reads (open_at b p (length p)) q)
reads_append b [] q = refl
reads_append b (s ∷ p) q = ap (λ r. fits b s && r) (reads_append (opens s) p q)
    ∙ and_grouped (fits b s) (reads (opens s) p) (reads (open_at (opens s) p (length p)) q)

-- after one more symbol
pub open_more : (b : Bool) (w : List Sym) (s : Sym) → open_at b (w ++ s ∷ []) (length (w ++ s ∷ [])) ≡ opens s
open_more b [] s = refl
open_more b (x ∷ w) s = open_more (opens x) w s

-- a whole word is not open at its end
pub runs_closed : (b : Bool) (w : List Sym) → runs b w ≡ true → open_at b w (length w) ≡ false
runs_closed b [] r = not-true b r
runs_closed b (s ∷ w) r = runs_closed (opens s) w (and_parts _ _ r).1

pub runs_reads : (b : Bool) (w : List Sym) → runs b w ≡ true → reads b w ≡ true
runs_reads b [] r = refl
runs_reads b (s ∷ w) r = and_from _ _ (and_parts (fits b s) (runs (opens s) w) r).0
    (runs_reads (opens s) w (and_parts (fits b s) (runs (opens s) w) r).1)

pub runs_from_reads : (b : Bool) (w : List Sym) → reads b w ≡ true → open_at b w (length w) ≡ false → runs b w ≡ true
runs_from_reads b [] r c = not_from_false b c
runs_from_reads b (s ∷ w) r c = and_from _ _ (and_parts (fits b s) (reads (opens s) w) r).0
    (runs_from_reads (opens s) w (and_parts (fits b s) (reads (opens s) w) r).1 c)
