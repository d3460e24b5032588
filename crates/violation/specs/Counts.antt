-- What a constraint counts on a timeline: choices of events that have a meet.
-- The two families follow Eisner, Efficient Generation in Primitive Optimality Theory (ACL 1997).
-- That each counts choices, and how, is this project's own.
use Rattle.std.specs.Prelude.{ℕ, ◌-◌, ◌*◌, Bool, not, ◌&&◌, nat_lt, List, [], ◌∷◌, ◌++◌, map, count_by}
use Rattle.std.specs.List.{list_any, flat_map}
use Rattle.tier_core.specs.declared.sym.Sym.{Sym}
use Rattle.tier_core.specs.declared.event.Event.{Event}
use Rattle.tier_core.specs.declared.constraint.Constraint.{Constraint}
use Rattle.tier_core.specs.declared.constraint.Family.{Family}
use Rattle.tier_core.specs.declared.constraint.Family.TheVariants.{Implication, Clash}
use Rattle.tier_core.specs.Events.{Interval, events, meet, is_there}

-- every choice of one element of each of the lists
abbrev pub choices : {X : Type 0} → List (List X) → List (List X)
choices [] = [] ∷ []
choices (xs ∷ xss) = flat_map (λ x. map (λ choice. x ∷ choice) (choices xss)) xs

-- whether an event of one of the types has a meet with m
abbrev pub is_met : List (List Sym) → List Event → Interval → Bool
is_met T types m = list_any (λ e. list_any (λ x. is_there (meet (m ∷ x ∷ []))) (events T e)) types

-- the types of which one event each is chosen: a clash chooses on both sides, an implication on
-- the left
abbrev pub choice_types : Family → List Event → List Event → List Event
choice_types Clash left right = left ++ right
choice_types Implication left right = left

-- Whether a choice is counted. A clash counts each choice that has a meet. An implication counts
-- each that has a meet that no event of a right type meets.
abbrev pub counts : Family → List Event → List (List Sym) → List Interval → Bool
counts Clash right T choice = is_there (meet choice)
counts Implication right T choice = is_there (meet choice) && not (is_met T right (meet choice))

-- the violations of a constraint of this family with these sides: how many choices it counts
unfoldable pub viol : Family → List Event → List Event → List (List Sym) → ℕ
viol family left right T =
    count_by (counts family right T) (choices (map (events T) (choice_types family left right)))

-- The violations so far, after n columns: how many of the choices that are counted have a meet
-- whose high end is below 2n - 1 (this project).
unfoldable pub so_far : Family → List Event → List Event → List (List Sym) → ℕ → ℕ
so_far family left right T n =
    count_by (λ choice. counts family right T choice && nat_lt (meet choice).high (2 * n - 1))
    (choices (map (events T) (choice_types family left right)))

-- the violations of a constraint
abbrev pub violations_of : Constraint → List (List Sym) → ℕ
violations_of c T = viol c.family c.left c.right T

-- its violations so far, after n columns
abbrev pub violations_so_far : Constraint → List (List Sym) → ℕ → ℕ
violations_so_far c T n = so_far c.family c.left c.right T n
