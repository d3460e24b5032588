-- Texts that are written one after the other, each by a writer of its own.
use Rattle.std.proofs.Common.{◌≡◌, List, ℕ, ◌++◌, sym, ap, ◌∙◌, subst, arith}
use Rattle.std.proofs.lemmas.Result.{on_ok_weaker, err_from_is_err_and}
use Rattle.std.specs.Prelude.{Result, Ok, Err, IsErrAnd}
use Rattle.outside.specs.{Writers.Puts, declared.sink.Sink.Ghosts, declared.sink.WriteErr.WriteErr}
use Rattle.outside.proofs.Sending.{longer_part, part_after, sends_after, sends_all, sends_front, sends_whole}

module _ {O A : Type 0} {sink : Ghosts O} where
  pub puts_then : {old mid new : O} {first second : List ℕ} {x : A} {r : Result A WriteErr}
      → Puts {A = A} sink old mid first (Ok x) → Puts sink mid new second r → Puts sink old new (first ++ second) r
  puts_then {first = first} {second} {r = r} a b =
      let sent = sends_front _ (sends_whole _ a.ok) in record {
        ok = on_ok_weaker r (λ e. sends_all (sends_after sent (sends_whole _ e))) b.ok;
        part = part_after sent b.part;
        never_falls = omega (arith, a.never_falls, b.never_falls);
        failed = λ e. let rose = b.failed e in omega (arith, a.never_falls, rose);
      }

  -- a refused text that was to go on; the error is handed on
  pub puts_cut : {old new : O} {first : List ℕ} {r : Result A WriteErr} {e : WriteErr} (more : List ℕ)
      → IsErrAnd r (λ y. y ≡ e) → Puts {A = A} sink old new first (Err e) → Puts sink old new (first ++ more) r
  puts_cut {old} {new} {first} {r} {e} more is p =
      let q = err_from_is_err_and r is in
      rw (q.1 ∙ ap Err q.2) (record {
        ok = tt;
        part = longer_part _ p.part;
        never_falls = p.never_falls;
        failed = p.failed;
      })
