-- What one turn of a loop over moves does.
use Rattle.std.proofs.Common.{◌≡◌, ℕ, suc, ◌+◌, ◌<◌, Bool, true, false, List, [], ◌∷◌, ◌++◌, Option, None, Some, length}
use Rattle.std.proofs.{Common.{get_or, set, take, drop, map, All, refl, sym, ap, ◌∙◌, subst, arith}, Math.Seq.drop-cons}
use Rattle.std.proofs.lemmas.List.{set-get_or, take_more, map_push, get_or_read}
use Rattle.std.specs.Prelude.{if◌then◌else◌}
use Rattle.weight_law.specs.Meaning.{Meaning}
use Rattle.arc_table.specs.declared.incoming_move.IncomingMove.{IncomingMove}
use Rattle.distances.specs.{Best.{is_lower, lesser_of}, Settled.{lower_at, relax_all}}

-- the element at which a loop stands, and the rest
pub at_turn : {X : Type 0} (xs : List X) (i : ℕ) (x : X) → i < length xs → x ≡ get_or xs i x
    → drop i xs ≡ x ∷ drop (i + 1) xs
at_turn xs i x inside is =
    let one : suc i ≡ i + 1 = omega arith in
    drop-cons xs i x inside ∙ ap (λ y. y ∷ drop (suc i) xs) (sym is) ∙ ap (λ n. x ∷ drop n xs) one

-- one more value, for the element at which a loop stands
pub one_more_value : {X Y : Type 0} (f : X → Y) (xs : List X) (i : ℕ) (d : X) (done new : List Y) (y : Y)
    → i < length xs → done ≡ map f (take i xs) → new ≡ done ++ y ∷ [] → y ≡ f (get_or xs i d)
    → new ≡ map f (take (i + 1) xs)
one_more_value f xs i d done new y inside so_far pushed is =
    pushed ∙ ap (λ l. l ++ y ∷ []) so_far ∙ ap (λ k. map f (take i xs) ++ k ∷ []) is
    ∙ sym (map_push f (take i xs) (get_or xs i d)) ∙ ap (map f) (sym (take_more xs i d inside))

-- one move turned round, with what is known of its source
module _ {W : Type 0} (m : Meaning W) (rest : W) (least : List (Option W)) (moves : List (IncomingMove W)) (i : ℕ)
    (move : IncomingMove W) (inside : i < length moves) (is : move ≡ get_or moves i move) (weight : W)
    (sum : weight ≡ m.sum move.weight rest) (total : ℕ) (sources : All (λ move. move.source < total) moves)
    (same : length least ≡ total) (found : Option W) (read : found ≡ get_or least move.source found) (lowers : Bool)
    (tells : lowers ≡ is_lower m weight found) where
  known : found ≡ get_or least move.source None
  known =
      let P : IncomingMove W → Type 0 = λ x. x.source < total in
      let there : P move = subst P (sym is) (sources i move inside) in
      get_or_read least move.source found (omega (arith, there, same)) read None

  looked : relax_all m rest least (drop i moves)
      ≡ relax_all m rest (lower_at m least move.source weight) (drop (i + 1) moves)
  looked = ap (relax_all m rest least) (at_turn moves i move inside is)
      ∙ ap (λ w. relax_all m rest (lower_at m least move.source w) (drop (i + 1) moves)) (sym sum)

  -- it lowers nothing
  pub relax_kept : lowers ≡ false
      → relax_all m rest least (drop (i + 1) moves) ≡ relax_all m rest least (drop i moves)
  relax_kept above = sym (looked ∙ ap (λ l. relax_all m rest l (drop (i + 1) moves))
      (ap (set least move.source) (old (get_or least move.source None)
      (ap (is_lower m weight) (sym known) ∙ sym tells ∙ above)) ∙ set-get_or least move.source None))
    where
      old : (o : Option W) → is_lower m weight o ≡ false → lesser_of m o (Some weight) ≡ o
      old None e = cc
      old (Some a) e = ap (λ t. if t then Some weight else Some a) e

  -- it lowers what is known
  pub relax_new : lowers ≡ true
      → relax_all m rest (set least move.source (Some weight)) (drop (i + 1) moves)
      ≡ relax_all m rest least (drop i moves)
  relax_new below = sym (looked ∙ ap (λ o. relax_all m rest (set least move.source o) (drop (i + 1) moves))
      (new (get_or least move.source None) (ap (is_lower m weight) (sym known) ∙ sym tells ∙ below)))
    where
      new : (o : Option W) → is_lower m weight o ≡ true → lesser_of m o (Some weight) ≡ Some weight
      new None e = refl
      new (Some a) e = ap (λ t. if t then Some weight else Some a) e
