-- Choices of one element of each of some lists.
use Rattle.std.proofs.Common.{List, [], ◌∷◌, map, subst, Contains}
use Rattle.violation.specs.Counts.{choices}
use Rattle.tier_core.proofs.Members.{contains_map, contains_of_map, contains_one, contains_first, contains_flat}
use Rattle.tier_core.proofs.Members.{contains_of_flat}

-- one element of each list in turn
abbrev pub IsChoice : {X : Type 0} → List (List X) → List X → Type 0
IsChoice [] [] = Unit {0}
IsChoice [] (c ∷ cs) = ⊥
IsChoice (xs ∷ xss) [] = ⊥
IsChoice (xs ∷ xss) (c ∷ cs) = Contains xs c × IsChoice xss cs

pub choices_have : {X : Type 0} (xss : List (List X)) (c : List X) → IsChoice xss c → Contains (choices xss) c
choices_have [] [] h = contains_first [] []
choices_have [] (c ∷ cs) h = absurd h
choices_have (xs ∷ xss) [] h = absurd h
choices_have (xs ∷ xss) (c ∷ cs) h = contains_flat (λ x. map (λ choice. x ∷ choice) (choices xss)) xs c (c ∷ cs) h.0
    (contains_map (λ choice. c ∷ choice) (choices xss) cs (choices_have xss cs h.1))

pub choice_in : {X : Type 0} (xss : List (List X)) (c : List X) → Contains (choices xss) c → IsChoice xss c
choice_in [] c h = subst (IsChoice []) (contains_one [] c h) tt
choice_in (xs ∷ xss) c h =
    let r = contains_of_flat (λ x. map (λ choice. x ∷ choice) (choices xss)) xs c h in
    let s = contains_of_map (λ choice. r.0 ∷ choice) (choices xss) c r.1.1 in
    subst (IsChoice (xs ∷ xss)) s.1.1 (r.1.0, choice_in xss s.0 s.1.0)
