-- The last of a list, and what comes behind it.
use Rattle.std.proofs.Common.{◌≡◌, suc, ◌-◌, ◌<◌, ◌==◌, Bool, List, [], ◌∷◌, length, get_or, map, refl, ap, sym}
use Rattle.std.proofs.{Common.{◌∙◌, arith}, lemmas.List.{get_or-map, length-map}}
use Rattle.std.specs.{Ordering.{ordering_index, is_lt}, declared.cmp.Ordering.Ordering}
use Rattle.std.specs.declared.cmp.Ordering.TheVariants.{Less, Equal, Greater}
use Rattle.answer_reader.specs.Orders.{follows}

last_later : {X : Type 0} (y z : X) (ys : List X) (d : X) → get_or (y ∷ z ∷ ys) (length (y ∷ z ∷ ys) - 1) d
    ≡ get_or (z ∷ ys) (length (z ∷ ys) - 1) d
last_later y z ys d = let e : length (y ∷ z ∷ ys) - 1
    ≡ suc (length (z ∷ ys) - 1) = omega arith in ap (λ k. get_or (y ∷ z ∷ ys) k d) e

pub follows_last : {X : Type 0} (less : X → X → Bool) (xs : List X) (x d : X) → 0 < length xs → follows less xs x
    ≡ less (get_or xs (length xs - 1) d) x
follows_last less [] x d l = absurd (omega arith)
follows_last less (y ∷ []) x d l = refl
follows_last less (y ∷ z ∷ ys) x d l = follows_last less (z ∷ ys) x d (omega arith)
    ∙ ap (λ w. less w x) (sym (last_later y z ys d))

-- the same where the list is told by values
pub follows_seen : {X Y : Type 0} (seen : Y → X) (less : X → X → Bool) (ys : List Y) (x : X) (last : Y)
    → 0 < length ys → last ≡ get_or ys (length ys - 1) last
    → follows less (map seen ys) x ≡ less (seen last) x
follows_seen seen less ys x last l e =
    let n = length-map ys seen in
    follows_last less (map seen ys) x (seen last) (omega arith) ∙ ap (λ w. less w x)
    (ap (λ k. get_or (map seen ys) (k - 1) (seen last)) n ∙ get_or-map _ ys _ _ _ (omega arith) ∙ ap seen (sym e))

-- as the code tells that one comes before another
pub less_told : (o : Ordering) → (ordering_index o == 0) ≡ is_lt o
less_told Less = refl
less_told Equal = refl
less_told Greater = refl
