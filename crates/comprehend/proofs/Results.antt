-- Results that are no errors.
use Rattle.std.specs.Prelude.{IfOk, MatchOption}
use Rattle.tier_core.specs.{declared.sym.Sym.Sym, Orders.IsFirst}
use Rattle.std.proofs.Common.{Option, None, Some, List, Result, Ok, Err}

-- where an `Ok` has this, it has that
pub if_ok_then : {A E : Type 0} (P Q : A → Type 0) → ((x : A) → P x → Q x) → (r : Result A E) → IfOk r P → IfOk r Q
if_ok_then P Q step (Ok x) h = step x h
if_ok_then P Q step (Err e) h = h

-- the same of an `Option` that may be none
pub match_then : {A : Type 0} (N M : Type 0) (P Q : A → Type 0) → (N → M) → ((x : A) → P x → Q x) → (o : Option A)
    → MatchOption o N P → MatchOption o M Q
match_then N M P Q none some None h = none h
match_then N M P Q none some (Some x) h = some x h

-- the first of the same timelines, said otherwise
pub first_same : (S R : List (List Sym) → Type 0) → ((T : List (List Sym)) → S T → R T)
    → ((T : List (List Sym)) → R T → S T) → (T : List (List Sym)) → IsFirst S T → IsFirst R T
first_same S R to back T first = record { member = to T first.member; least = λ U r. first.least U (back U r) }
