-- Laws of tests.
use Rattle.std.proofs.Common.{◌≡◌, ◌&&◌, ◌||◌, not, Bool, true, false, refl}

pub not_not : (a : Bool) → not (not a) ≡ a
not_not true = refl
not_not false = refl

pub and_false : (a : Bool) → (a && false) ≡ false
and_false true = refl
and_false false = refl

pub or_false : (a : Bool) → (a || false) ≡ a
or_false true = refl
or_false false = refl

-- neither the one nor the other
pub none_of : (a b : Bool) → (not a && not b) ≡ not (a || b)
none_of true b = refl
none_of false b = refl

pub and_grouped : (a b c : Bool) → (a && (b && c)) ≡ ((a && b) && c)
and_grouped true b c = refl
and_grouped false b c = refl
