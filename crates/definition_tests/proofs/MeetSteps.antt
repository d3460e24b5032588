-- The meet of what was chosen so far, and then of the rest of a choice.
use Rattle.std.proofs.Common.{◌≡◌, ℕ, min, max, Option, Some, None, List, [], ◌∷◌, ◌++◌, map, refl, ap, ◌∙◌, arith}
use Rattle.std.proofs.Common.{Bool}
use Rattle.std.specs.List.{list_any}
use Rattle.tier_core.specs.Events.{Interval, greatest_low, least_from, meet}
use Rattle.definition_tests.specs.{declared.span.Span.Span, Spans.intervals_of}

max_of_three : (a b c : ℕ) → max a (max b c) ≡ max (max a (max b 0)) c
max_of_three a b c = omega arith

max_of_two : (a c : ℕ) → max a c ≡ max (max a 0) c
max_of_two a c = omega arith

min_swap : (a b c : ℕ) → min a (min b c) ≡ min b (min a c)
min_swap a b c = omega arith

both : {a b : ℕ} {c d : ℕ} → a ≡ b → c ≡ d
    → let x : Interval = record { low = a; high = c } in let y : Interval = record { low = b; high = d } in x ≡ y
both {a} {b} {c} {d} e f =
    let lows : ℕ → Interval = λ n. record { low = n; high = c } in
    let highs : ℕ → Interval = λ n. record { low = b; high = n } in
    ap lows e ∙ ap highs f

least_from_min : (a h : ℕ) (xs : List Interval) → min a (least_from h xs) ≡ least_from (min a h) xs
least_from_min a h [] = refl
least_from_min a h (x ∷ xs) = min_swap a x.high (least_from h xs) ∙ ap (min x.high) (least_from_min a h xs)

-- an event more may be joined to what was chosen before
pub meet_joined : (chosen : Option Span) (x : Interval) (choice : List Interval)
    → meet (intervals_of chosen ++ (x ∷ choice)) ≡ meet (meet (intervals_of chosen ++ (x ∷ [])) ∷ choice)
meet_joined None x choice = both (max_of_two x.low (greatest_low choice)) refl
meet_joined (Some m) x choice = both (max_of_three m.low x.low (greatest_low choice))
    (least_from_min x.high m.high choice)

pub any_map : {X Y : Type 0} (p : Y → Bool) (f : X → Y) (xs : List X)
    → list_any (λ x. p (f x)) xs ≡ list_any p (map f xs)
any_map p f [] = refl
any_map p f (x ∷ xs) = rw (any_map p f xs) refl
