-- A timeline of at most 8 columns has at most 8 events of a type, and 8 ^ n choices of n types.
use Rattle.std.proofs.Common.{◌≡◌, ℕ, ◌+◌, ◌*◌, ◌^◌, ◌≤◌, Bool, true, false, cond, Option, Some, None, List, []}
use Rattle.std.proofs.{Common.{◌∷◌, length, map, refl, arith, length-append, suc}, lemmas.List.length-map}
use Rattle.std.proofs.{lemmas.Nat.mul-le, Math.Nat.{pow-succ', pow-le-pow_right}}
use Rattle.std.specs.List.{flat_map}
use Rattle.tier_core.specs.{declared.sym.Sym.Sym, declared.event.Event.Event, Events.{event, events}}
use Rattle.tier_core.specs.Timelines.{symbol, tier_word}
use Rattle.tier_core.specs.Words.{starts, next_end, pair_to, constituents, constituents_from}
use Rattle.violation.specs.Counts.{choices}

pair_few : (b : Bool) (k : ℕ) (o : Option ℕ) → length (cond b (pair_to k o) []) ≤ 1
pair_few false k o = omega arith
pair_few true k None = omega arith
pair_few true k (Some j) = omega arith

constituents_few : (k : ℕ) (w : List Sym) → length (constituents_from k w) ≤ length w
constituents_few k [] = omega arith
constituents_few k (s ∷ w) =
    omega (
      arith,
      length-append (cond (starts s) (pair_to k (next_end (suc k) w)) []) (constituents_from (suc k) w),
      pair_few (starts s) k (next_end (suc k) w),
      constituents_few (suc k) w,
    )

pub events_few : (T : List (List Sym)) (e : Event) → length (events T e) ≤ length T
events_few T e =
    omega (
      arith,
      length-map (constituents (tier_word T e.tier)) (event e.part),
      length-map T (λ column. symbol column e.tier),
      constituents_few 0 (tier_word T e.tier),
    )

length_flat : {X : Type 0} (xs : List X) (rest : List (List X))
    → length (flat_map (λ x. map (λ choice. x ∷ choice) rest) xs) ≡ length xs * length rest
length_flat [] rest = omega arith
length_flat (x ∷ xs) rest =
    omega (
      arith,
      length-append (map (λ choice. x ∷ choice) rest)
          (flat_map (λ y. map (λ choice. y ∷ choice) rest) xs),
      length-map rest (λ choice. x ∷ choice),
      length_flat xs rest,
      times (length xs) (length rest),
    )
  where
    times : (a n : ℕ) → suc a * n ≡ n + a * n
    times a n = omega arith

pub choices_few : (T : List (List Sym)) (types : List Event) → length T ≤ 8
    → length (choices (map (events T) types)) ≤ 8 ^ length types
choices_few T [] h = omega arith
choices_few T (e ∷ types) h =
    omega (
      arith,
      length_flat (events T e) (choices (map (events T) types)),
      mul-le (length (events T e)) (length (choices (map (events T) types))) 8 (8 ^ length types)
          (omega (arith, events_few T e, h)) (choices_few T types h),
      pow-succ' 8 (length types),
    )

-- 16 types have less than 2 ^ 64 choices
pub choices_fit : (T : List (List Sym)) (types : List Event) → length T ≤ 8 → length types ≤ 16
    → length (choices (map (events T) types)) ≤ 281474976710656
choices_fit T types h l =
    let most : 8 ^ length types ≤ 8 ^ 16 = pow-le-pow_right (omega arith) l in
    let value : 8 ^ 16 ≡ 281474976710656 = refl in
    omega (arith, choices_few T types h, most, value)
