-- What the calls that count choices ask of types of events, and what they count.
use Rattle.std.specs.Prelude.{ℕ, ◌<◌, Bool, not, ◌&&◌, List, ◌++◌, length, All, map, count_by}
use Rattle.tier_core.specs.declared.sym.Sym.{Sym}
use Rattle.tier_core.specs.declared.event.Event.{Event}
use Rattle.tier_core.specs.declared.constraint.Family.{Family}
use Rattle.tier_core.specs.declared.constraint.Family.TheVariants.{Implication, Clash}
use Rattle.tier_core.specs.Events.{Interval, events, meet, is_there}
use Rattle.violation.specs.Counts.{choices, is_met}

-- each column has a symbol for the tier
abbrev pub HasTier : List (List Sym) → ℕ → Type 0
HasTier T tier = All (λ column. tier < length column) T

-- each column has a symbol for the tier of each type
abbrev pub HasTiersOf : List (List Sym) → List Event → Type 0
HasTiersOf T types = All (λ e. HasTier T e.tier) types

-- whether a choice with this meet is counted
abbrev pub counts_meet : Family → List Event → List (List Sym) → Interval → Bool
counts_meet Clash right T m = is_there m
counts_meet Implication right T m = is_there m && not (is_met T right m)

-- how many choices of one event of each type are counted, given some intervals that were chosen
-- before
abbrev pub counted_after : Family → List Event → List (List Sym) → List Interval → List Event → ℕ
counted_after family right T before types =
    count_by (λ choice. counts_meet family right T (meet (before ++ choice))) (choices (map (events T) types))
