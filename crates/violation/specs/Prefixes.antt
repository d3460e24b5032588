-- Kinds of prefixes: what matters of the first columns of a candidate for how it goes on
-- (this project). A prefix p is a list of columns, of which the last constituent of a tier may
-- not have ended.
use Rattle.std.specs.Prelude.{ℕ, zero, suc, ◌+◌, ◌-◌, ◌*◌, Bool, false, not, ◌&&◌, ◌||◌, if◌then◌else◌, List, [], ◌∷◌, ◌++◌, length, map, take, filter, Option, unwrap_or, option_to_list}
use Rattle.std.specs.List.{list_all, list_any, flat_map}
use Rattle.tier_core.specs.declared.sym.Sym.{Sym}
use Rattle.tier_core.specs.declared.event.Event.{Event}
use Rattle.tier_core.specs.declared.event.Part.{Part}
use Rattle.tier_core.specs.declared.event.Part.TheVariants.{Start as StartOf, End as EndOf, Interior}
use Rattle.tier_core.specs.declared.constraint.Constraint.{Constraint}
use Rattle.tier_core.specs.Words.{starts, ends, next_end}
use Rattle.tier_core.specs.Timelines.{tier_word, column_at, project, squeeze}
use Rattle.tier_core.specs.Events.{Interval, meet, is_there}
use Rattle.tier_core.specs.Tiers.{Tiers}
use Rattle.tier_core.specs.declared.kind.Kind.{Kind}
use Rattle.tier_core.specs.Kinds.{Phase, closed, unmet, met, PrefixKind, prefix_kind}
use Rattle.tier_core.specs.Sides.{edge_among, is_stretch}
use Rattle.violation.specs.Problems.{Problem}

-- in a word, a constituent has started and not ended
abbrev pub is_open : List Sym → Bool
is_open [] = false
is_open (s ∷ w) = (starts s && not (list_any ends w)) || is_open w

-- each place with a start, with the least later place that has an end, if there is one
abbrev pub begun_from : ℕ → List Sym → List (ℕ × Option ℕ)
begun_from i [] = []
begun_from i (s ∷ w) = (if starts s then (i, next_end (suc i) w) ∷ [] else []) ++ begun_from (suc i) w

-- the events of what has begun in n columns: what is open has no end, and its interior reaches
-- 2n - 1
abbrev pub event_begun : ℕ → Part → ℕ × Option ℕ → List Interval
event_begun n StartOf c = record { low = 2 * c.0; high = 2 * c.0 } ∷ []
event_begun n EndOf c = map (λ j. record { low = 2 * j; high = 2 * j }) (option_to_list c.1)
event_begun n Interior c = record { low = 2 * c.0 + 1; high = 2 * unwrap_or c.1 n - 1 } ∷ []

-- the events of a type in a prefix
abbrev pub events_begun : List (List Sym) → Event → List Interval
events_begun p e = flat_map (event_begun (length p) e.part) (begun_from 0 (tier_word p e.tier))

-- whether an event of one of the types in a prefix has a meet with m
abbrev pub is_met_in : List (List Sym) → List Event → Interval → Bool
is_met_in p types m = list_any (λ e. list_any (λ x. is_there (meet (m ∷ x ∷ []))) (events_begun p e)) types

-- the last of the first n places whose column passes, or 0
abbrev pub last_where : (List Sym → Bool) → List (List Sym) → ℕ → ℕ
last_where test p zero = 0
last_where test p (suc n) = if test (column_at p n) then n else last_where test p n

-- The phase of a stretch implication after a prefix of n columns. It is closed if some left tier
-- is not open. Otherwise let s be the last place with an edge on a left tier: it is met if some
-- event of a right type has a meet with [2s + 1, 2n - 1], and unmet if none has.
abbrev pub phase : List Event → List Event → List (List Sym) → Phase
phase left right p =
    let s = last_where (edge_among left) p (length p) in
    if list_all (λ e. is_open (tier_word p e.tier)) left
    then (if is_met_in p right (record { low = 2 * s + 1; high = 2 * length p - 1 }) then met else unmet)
    else closed

-- the stretch implications among the first r constraints
abbrev pub stretches : Problem → ℕ → List Constraint
stretches problem r = filter is_stretch (take r problem.constraints)

-- The kind of a prefix under the first r constraints: its place, which is the number of columns of
-- its squeezed input part; which free tiers are open; and the phases of the stretch implications.
abbrev pub kind_of : Problem → ℕ → List (List Sym) → PrefixKind
kind_of problem r p = record {
  place = length (squeeze (project problem.tiers.input p));
  opened = map (λ t. is_open (tier_word p t)) problem.tiers.free;
  phases = map (λ c. phase c.left c.right p) (stretches problem r);
}

-- the kind that bits encode under the first r constraints
abbrev pub kind_of_bits : Problem → ℕ → Kind → PrefixKind
kind_of_bits problem r kind = prefix_kind (length problem.tiers.free) (length (stretches problem r)) kind
