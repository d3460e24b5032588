-- Reading the pieces of a list one by one.
use Rattle.std.proofs.Common.{◌≡◌, ℕ, suc, ◌+◌, ◌<◌, Bool, true, false, cond, List, [], ◌∷◌, ◌++◌, map, refl, ap}
use Rattle.std.proofs.Common.{sym, ◌∙◌, append-nil, length, get_or, drop, arith, Option, Some, None, option_map}
use Rattle.std.proofs.{Common.option_and_then, Math.Seq.drop-cons}
use Rattle.std.specs.List.{slice_split, onto_first}
use Rattle.grammar_reader.specs.{Statements.each_some, Lexemes.with_front}
use Rattle.grammar_reader.proofs.Lexing.{cons_front}

pub some_more : {X Y : Type 0} (f : X → Option Y) (done : List Y) (x : X) (xs : List X) (y : Y) → f x ≡ Some y
    → with_front done (each_some f (x ∷ xs)) ≡ with_front (done ++ y ∷ []) (each_some f xs)
some_more f done x xs y h = ap (λ o. with_front done
    (option_and_then (λ z. option_map (λ zs. z ∷ zs) (each_some f xs)) o)) h ∙ cons_front done y (each_some f xs)

pub some_none : {X Y : Type 0} (f : X → Option Y) (done : List Y) (x : X) (xs : List X) → f x ≡ None
    → with_front done (each_some f (x ∷ xs)) ≡ None
some_none f done x xs h = ap (λ o. with_front done
    (option_and_then (λ z. option_map (λ zs. z ∷ zs) (each_some f xs)) o)) h

-- the same at the element of a list at which a loop stands
module _ {X Y Z : Type 0} (f : X → Option Y) (seen : Z → X) (done : List Y) (zs : List Z) (i : ℕ) (z : Z)
    (inside : i < length zs) where
  one_more : suc i ≡ i + 1
  one_more = omega arith

  pub some_step : (y : Y) → f (seen (get_or zs i z)) ≡ Some y
      → with_front (done ++ y ∷ []) (each_some f (map seen (drop (i + 1) zs)))
      ≡ with_front done (each_some f (map seen (drop i zs)))
  some_step y h = sym (ap (λ rest. with_front done (each_some f (map seen rest))) (drop-cons zs i z inside)
      ∙ some_more f done (seen (get_or zs i z)) (map seen (drop (suc i) zs)) y h
      ∙ ap (λ n. with_front (done ++ y ∷ []) (each_some f (map seen (drop n zs)))) one_more)

  pub none_step : f (seen (get_or zs i z)) ≡ None → with_front done (each_some f (map seen (drop i zs))) ≡ None
  none_step h = ap (λ rest. with_front done (each_some f (map seen rest))) (drop-cons zs i z inside)
      ∙ some_none f done (seen (get_or zs i z)) (map seen (drop (suc i) zs)) h

onto_map : {X Y : Type 0} (f : X → Y) (x : X) (parts : List (List X))
    → onto_first (f x) (map (map f) parts) ≡ map (map f) (onto_first x parts)
onto_map f x [] = refl
onto_map f x (part ∷ parts) = refl

split_step : {X Y : Type 0} (f : X → Y) (x : X) (t : Bool) (us : List (List Y)) (parts : List (List X))
    → us ≡ map (map f) parts → cond t ([] ∷ us) (onto_first (f x) us)
    ≡ map (map f) (cond t ([] ∷ parts) (onto_first x parts))
split_step f x true us parts h = ap (λ ps. [] ∷ ps) h
split_step f x false us parts h = ap (onto_first (f x)) h ∙ onto_map f x parts

-- what is cut after a change is what is changed after the cut
pub slice_split-map : {X Y : Type 0} (f : X → Y) (q : Y → Bool) (xs : List X)
    → slice_split q (map f xs) ≡ map (map f) (slice_split (λ x. q (f x)) xs)
slice_split-map f q [] = refl
slice_split-map f q (x ∷ xs) = split_step f x (q (f x)) (slice_split q (map f xs)) (slice_split (λ y. q (f y)) xs)
    (slice_split-map f q xs)
