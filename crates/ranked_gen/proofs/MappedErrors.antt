-- What holds of a result holds where its error is turned into another.
use Rattle.std.proofs.Common.{◌≡◌, true≢false, subst, sym, IfOk}
use Rattle.std.specs.{Prelude.{Result, Ok, Err, MatchResult}, Result.is_ok}

pub kept_by_map_err : {T D E : Type 0} (old : Result T D) (new : Result T E) (P : T → Type 0) (Q : D → Type 0)
    → MatchResult old (λ x. new ≡ Ok x) Q → is_ok new ≡ is_ok old → IfOk old P → IfOk new P
kept_by_map_err (Ok x) new P Q cases same p = subst (λ r. IfOk r P) (sym cases) p
kept_by_map_err (Err e) (Ok y) P Q cases same p = absurd (true≢false same)
kept_by_map_err (Err e) (Err d) P Q cases same p = tt
