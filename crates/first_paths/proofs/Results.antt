-- Results that are no errors.
use Rattle.std.specs.{Prelude.OnOk, Result.is_err}
use Rattle.std.proofs.{lemmas.Bool.false≢true, Common.{Result, Ok, Err, false, ◌≡◌, sym}}

-- what holds of an `Ok`, where the result is no `Err`
pub on_ok : {A E P : Type 0} (r : Result A E) → OnOk r P → is_err r ≡ false → P
on_ok (Ok x) h e = h
on_ok (Err x) h e = absurd (false≢true (sym e))
