-- Writers of texts, for their proofs. The texts are found from the goal and from what the callees ensure.
--
-- A writer that pushes its text piece by piece: `a ▹ b` is a piece and then the next. At the exit of a refused piece
-- `cut` says that more was to follow, and `stop` hands the error on, by `c.from_residual.ensures.1`. A piece that is
-- written otherwise in the text is turned by `pushes_as`.
--
-- A loop that pushes the text of each element keeps `PushesEach`: `each_none`, `each_turn`, `each_stop`, `each_end`.
-- Any other keeps `PushesUpTo`, with the rest of the text: `up_to_none`, `up_to_as`, `up_to_more`, `up_to_stop`,
-- `up_to_end`.
--
-- A writer `put_x` stops with `puts_stop`, and ends with `puts_flushed`.
use Rattle.std.proofs.Common.{◌≡◌, ℕ, ◌+◌, ◌<◌, ◌≤◌, Option, List, [], ◌++◌, length, drop, get_or, refl, subst}
use Rattle.std.proofs.Common.{arith, ap, sym, ◌∙◌, append_assoc, append-nil}
use Rattle.std.proofs.{lemmas.List.{at_drop_more, at_drop_all}, lemmas.Result.{on_ok_weaker, err_from_is_err_and}}
use Rattle.std.specs.{Prelude.{Result, Ok, Err, IsErrAnd, OnErr}, List.flat_map}
use Rattle.outside.specs.{Faults.Rose, Sent.{append_if_seen, HasSentPart, Sends}, Writers.{Puts, Pushes}}
use Rattle.outside.specs.{declared.sink.Sink.Ghosts, declared.sink.WriteErr.WriteErr}
use Rattle.outside.proofs.Sending.{longer_part, part_after, part_of_sends, sends_after, sends_all, sends_both}
use Rattle.outside.proofs.Sending.{sends_front, sends_none, sends_whole}

rose_later : (a b c : ℕ) → a ≤ b → Rose b c → Rose a c
rose_later a b c h r = omega arith

always : {A E P : Type 0} (r : Result A E) → P → OnErr r P
always (Ok x) p = tt
always (Err e) p = p

-- ---- one text ----
module _ {O A : Type 0} {sink : Ghosts O} where
  -- the same text, written otherwise
  pub pushes_as : {old new : O} {waits left text text' : List ℕ} {r : Result A WriteErr} → text ≡ text'
      → Pushes sink old new waits left text r → Pushes sink old new waits left text' r
  pushes_as {old} {new} {waits} {left} {r = r} e p = subst (λ t. Pushes sink old new waits left t r) e p

  -- a refused text that was to go on
  pub cut : {old new : O} {waits left text : List ℕ} {e : WriteErr} (more : List ℕ)
      → Pushes {A = A} sink old new waits left text (Err e)
      → Pushes {A = A} sink old new waits left (text ++ more) (Err e)
  cut {old} {new} {waits} {text = text} more p = record {
    ok = p.ok;
    part = subst (λ t. HasSentPart (sink.taken old) t (sink.taken new)) (append_assoc waits text more)
        (longer_part more p.part);
    err = p.err;
    never_falls = p.never_falls;
    failed = p.failed;
  }

  -- the error of a refused text is handed on
  pub stop : {old new : O} {waits left text : List ℕ} {r : Result A WriteErr} {e : WriteErr} → IsErrAnd r (λ y. y ≡ e)
      → Pushes {A = A} sink old new waits left text (Err e) → Pushes sink old new waits left text r
  stop {old} {new} {waits} {left} {text} {r} {e} is p =
      let q = err_from_is_err_and r is in
      subst (λ r. Pushes {A = A} sink old new waits left text r) (sym (q.1 ∙ ap Err q.2)) p

  -- a piece that waits, and has not been handed on
  pub pushes_held : {waits left piece : List ℕ} (old : O) (x : A)
      → left ≡ waits ++ piece → Pushes {A = A} sink old old waits left piece (Ok x)
  pushes_held {waits} {left} {piece} old x e = record {
    ok = subst (λ t. Sends (sink.taken old) t (sink.taken old) left) e (sends_none (sink.taken old) left);
    part = part_of_sends (sends_none (sink.taken old) (waits ++ piece));
    err = tt;
    never_falls = omega arith;
    failed = λ e. absurd cc;
  }

-- ---- a text and then another ----
module _ {O A : Type 0} {sink : Ghosts O} where
  infixl 20 ◌▹◌
  pub ◌▹◌ : {old mid new : O} {waits between left first second : List ℕ} {x : A} {r : Result A WriteErr}
      → Pushes {A = A} sink old mid waits between first (Ok x) → Pushes sink mid new between left second r
      → Pushes sink old new waits left (first ++ second) r
  ◌▹◌ {old} {mid} {new} {waits} {between} {left} {first} {second} {x} {r} a b = record {
    ok = on_ok_weaker r (λ s. sends_both waits first second a.ok s) b.ok;
    part = part_of_sends (sends_both waits first second a.ok b.part.sends);
    err = b.err;
    never_falls = omega (arith, a.never_falls, b.never_falls);
    failed = λ e. rose_later (sink.faults old) (sink.faults mid) (sink.faults new) a.never_falls (b.failed e);
  }

all_sent : {old new : Option (List ℕ)} (piece : List ℕ) {left : List ℕ}
    → left ≡ [] → new ≡ append_if_seen old piece → Sends old piece new left
all_sent {old} {new} piece none e = subst (Sends old piece new) (sym none) (sends_whole piece e)

-- ---- what waits goes to the sink, and then a piece ----
module _ {O A : Type 0} {sink : Ghosts O} where
  pub refused : {old new : O} {waits left : List ℕ} {e : WriteErr} (piece : List ℕ) → left ≡ []
      → Puts {A = A} sink old new waits (Err e) → Pushes {A = A} sink old new waits left piece (Err e)
  refused piece none p = record {
    ok = tt;
    part = longer_part piece p.part;
    err = none;
    never_falls = p.never_falls;
    failed = p.failed;
  }

  pub through : {old mid new : O} {waits left piece : List ℕ} {x : A} {r : Result A WriteErr} → left ≡ []
      → Puts {A = A} sink old mid waits (Ok x) → Puts sink mid new piece r → Pushes sink old new waits left piece r
  through {old} {mid} {new} {waits} {left} {piece} {x} {r} none a b =
      let flushed = sends_front piece (sends_whole waits a.ok) in record {
        ok = on_ok_weaker r (λ e. sends_after flushed (all_sent piece none e)) b.ok;
        part = part_after flushed b.part;
        err = always r none;
        never_falls = omega (arith, a.never_falls, b.never_falls);
        failed = λ e. rose_later (sink.faults old) (sink.faults mid) (sink.faults new) a.never_falls (b.failed e);
      }

-- ---- a text through a buffer in which nothing waits at first, and which is flushed at the end ----
module _ {O A : Type 0} {sink : Ghosts O} where
  pub puts_stop : {old new : O} {waits left text : List ℕ} {r : Result A WriteErr} {e : WriteErr} → waits ≡ []
      → IsErrAnd r (λ y. y ≡ e) → Pushes {A = A} sink old new waits left text (Err e) → Puts sink old new text r
  puts_stop {old} {new} {waits} {left} {text} {r} {e} none is p =
      let q = err_from_is_err_and r is in
      subst (λ r. Puts {A = A} sink old new text r) (sym (q.1 ∙ ap Err q.2)) (record {
        ok = tt;
        part = subst (λ w. HasSentPart (sink.taken old) (w ++ text) (sink.taken new)) none p.part;
        never_falls = p.never_falls;
        failed = p.failed;
      })

  pub puts_flushed : {old mid new : O} {waits left text : List ℕ} {x : A} {r : Result A WriteErr} → waits ≡ []
      → Pushes {A = A} sink old mid waits left text (Ok x) → Puts sink mid new left r → Puts sink old new text r
  puts_flushed {old} {mid} {new} {waits} {left} {text} {x} {r} none p f =
      let pushed = subst (λ w. Sends (sink.taken old) (w ++ text) (sink.taken mid) left) none p.ok in record {
        ok = on_ok_weaker r (λ e. sends_all (sends_after pushed (sends_whole left e))) f.ok;
        part = part_after pushed f.part;
        never_falls = omega (arith, p.never_falls, f.never_falls);
        failed = λ e. rose_later (sink.faults old) (sink.faults mid) (sink.faults new) p.never_falls (f.failed e);
      }

-- ---- a text up to its rest, as a loop keeps it ----
pub record PushesUpTo {O : Type 0} (sink : Ghosts O) (old new : O) (waits left text rest : List ℕ) : Type 0 where
  pub front : List ℕ
  pub pushes : Pushes {A = Unit {0}} sink old new waits left front (Ok tt)
  pub whole : text ≡ front ++ rest

module _ {O : Type 0} {sink : Ghosts O} where
  -- nothing yet
  pub up_to_none : (old : O) (waits text : List ℕ) → PushesUpTo sink old old waits waits text text
  up_to_none old waits text = record { front = []; pushes = pushes_held old tt (sym (append-nil waits)); whole = refl }

  -- the rest, written otherwise
  pub up_to_as : {old new : O} {waits left text rest rest' : List ℕ} → rest ≡ rest'
      → PushesUpTo sink old new waits left text rest → PushesUpTo sink old new waits left text rest'
  up_to_as {old} {new} {waits} {left} {text} e s = subst (PushesUpTo sink old new waits left text) e s

  -- a piece more
  pub up_to_more : {old mid new : O} {waits between left text piece rest : List ℕ} {x : Unit {0}}
      → PushesUpTo sink old mid waits between text (piece ++ rest) → Pushes sink mid new between left piece (Ok x)
      → PushesUpTo sink old new waits left text rest
  up_to_more {piece = piece} {rest = rest} s p = record {
    front = s.front ++ piece;
    pushes = s.pushes ▹ p;
    whole = s.whole ∙ sym (append_assoc s.front piece rest);
  }

  -- a piece that was refused
  pub up_to_stop : {old mid new : O} {waits between left text piece : List ℕ} {e : WriteErr} (rest : List ℕ)
      → PushesUpTo sink old mid waits between text (piece ++ rest)
      → Pushes {A = Unit {0}} sink mid new between left piece (Err e)
      → Pushes {A = Unit {0}} sink old new waits left text (Err e)
  up_to_stop {piece = piece} rest s p =
      pushes_as (append_assoc s.front piece rest ∙ sym s.whole) (cut rest (s.pushes ▹ p))

  -- nothing is left
  pub up_to_end : {old new : O} {waits left text rest : List ℕ} → rest ≡ []
      → PushesUpTo sink old new waits left text rest → Pushes {A = Unit {0}} sink old new waits left text (Ok tt)
  up_to_end none s = pushes_as (sym (s.whole ∙ ap (λ t. s.front ++ t) none ∙ append-nil s.front)) s.pushes

-- ---- the texts of the elements of a list, up to the i-th element ----
pub record PushesEach {O X : Type 0} (sink : Ghosts O) (old new : O) (waits left : List ℕ)
    (f : X → List ℕ) (xs : List X) (i : ℕ) : Type 0 where
  pub so_far : PushesUpTo sink old new waits left (flat_map f xs) (flat_map f (drop i xs))

module _ {O X : Type 0} {sink : Ghosts O} where
  pub each_none : (old : O) (waits : List ℕ) (f : X → List ℕ) (xs : List X)
      → PushesEach sink old old waits waits f xs 0
  each_none old waits f xs = record { so_far = up_to_none old waits (flat_map f xs) }

  -- before the element x at i, with its text
  at_element : {old new : O} {waits left : List ℕ} {f : X → List ℕ} {xs : List X} {i : ℕ} {x : X} (d : X)
      → i < length xs → x ≡ get_or xs i d → PushesEach sink old new waits left f xs i
      → PushesUpTo sink old new waits left (flat_map f xs) (f x ++ flat_map f (drop (i + 1) xs))
  at_element {f = f} {xs = xs} {i = i} d h is s =
      let next = at_drop_more (flat_map f) xs i d h in
      up_to_as (next ∙ ap (λ y. f y ++ flat_map f (drop (i + 1) xs)) (sym is)) s.so_far

  pub each_turn : {old mid new : O} {waits between left : List ℕ} {f : X → List ℕ} {xs : List X} {i : ℕ} {x : X}
      {u : Unit {0}} (d : X) → i < length xs → x ≡ get_or xs i d → PushesEach sink old mid waits between f xs i
      → Pushes sink mid new between left (f x) (Ok u) → PushesEach sink old new waits left f xs (i + 1)
  each_turn d h is s p = record { so_far = up_to_more (at_element d h is s) p }

  pub each_stop : {old mid new : O} {waits between left : List ℕ} {f : X → List ℕ} {xs : List X} {i : ℕ} {x : X}
      {e : WriteErr} (d : X) → i < length xs → x ≡ get_or xs i d → PushesEach sink old mid waits between f xs i
      → Pushes {A = Unit {0}} sink mid new between left (f x) (Err e)
      → Pushes {A = Unit {0}} sink old new waits left (flat_map f xs) (Err e)
  each_stop {f = f} {xs = xs} {i = i} d h is s p = up_to_stop (flat_map f (drop (i + 1) xs)) (at_element d h is s) p

  pub each_end : {old new : O} {waits left : List ℕ} {f : X → List ℕ} {xs : List X} {i : ℕ} → length xs ≤ i
      → PushesEach sink old new waits left f xs i
      → Pushes {A = Unit {0}} sink old new waits left (flat_map f xs) (Ok tt)
  each_end {f = f} {xs = xs} {i = i} h s = up_to_end (at_drop_all (flat_map f) xs i h) s.so_far
