-- Cases of tests, and what no element passes.
use Rattle.std.proofs.Common.{◌≡◌, ℕ, suc, ◌+◌, ◌≤◌, Bool, true, false, not, cond, ◌||◌, List, [], ◌∷◌, length}
use Rattle.std.proofs.{Common.{position, Option, Some, None, refl, arith}, lemmas.Bool.Decides.nat_tests}
use Rattle.std.specs.List.{position_or_len, list_any}
use Rattle.timeline_text.proofs.Splits.{position_none}

pub by_test : {X : Type 0} (t : Bool) → (t ≡ true → X) → (t ≡ false → X) → X
by_test true a b = a refl
by_test false a b = b refl

pub none_some : {X : Type 0} {o : Option X} {x : X} → o ≡ None → o ≡ Some x → ⊥
none_some e f = cc

pub by_option : {X Y : Type 0} (o : Option X) → ((x : X) → o ≡ Some x → Y) → (o ≡ None → Y) → Y
by_option None a b = b refl
by_option (Some x) a b = a x refl

none_at : (t : Bool) (n m : ℕ) (r : Bool) → suc n ≤ cond (not t) (1 + m) 0 → (n ≤ m → r ≡ false) → (t || r) ≡ false
none_at true n m r h k = absurd (omega arith)
none_at false n m r h k = k (omega arith)

none_from : {X : Type 0} (p : X → Bool) (xs : List X) → length xs ≤ position_or_len p xs → list_any p xs ≡ false
none_from p [] h = refl
none_from p (x ∷ xs) h = none_at (p x) (length xs) (position_or_len p xs) (list_any p xs) h (none_from p xs)

-- where no place is found, no element passes
pub none_any : {X : Type 0} (p : X → Bool) (xs : List X) → position p xs ≡ None → list_any p xs ≡ false
none_any p xs h = none_from p xs (position_none p xs h)

len_at : (t : Bool) (n m : ℕ) (r : Bool) → (t || r) ≡ false → (r ≡ false → m ≡ n) → cond (not t) (1 + m) 0 ≡ suc n
len_at true n m r h k = cc
len_at false n m r h k = let e = k h in omega arith

any_from : {X : Type 0} (p : X → Bool) (xs : List X) → list_any p xs ≡ false → position_or_len p xs ≡ length xs
any_from p [] h = refl
any_from p (x ∷ xs) h = len_at (p x) (length xs) (position_or_len p xs) (list_any p xs) h (any_from p xs)

-- where no element passes, no place is found
pub any_none : {X : Type 0} (p : X → Bool) (xs : List X) → list_any p xs ≡ false → position p xs ≡ None
any_none p xs h = let e = any_from p xs h in grind (arith, nat_tests)
