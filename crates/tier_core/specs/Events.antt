-- Events as intervals of doubled time, and their meets.
use Rattle.std.specs.Prelude.{ℕ, ◌+◌, ◌-◌, ◌*◌, Bool, nat_le, max, min, List, [], ◌∷◌, map}
use Rattle.tier_core.specs.declared.sym.Sym.{Sym}
use Rattle.tier_core.specs.declared.event.Event.{Event}
use Rattle.tier_core.specs.declared.event.Part.{Part}
use Rattle.tier_core.specs.declared.event.Part.TheVariants.{Start as StartOf, End as EndOf, Interior}
use Rattle.tier_core.specs.Words.{constituents}
use Rattle.tier_core.specs.Timelines.{tier_word}

pub record Interval : Type 0 where
  pub low : ℕ
  pub high : ℕ

-- the event that a part of the constituent (i, j) is
abbrev pub event : Part → ℕ × ℕ → Interval
event StartOf c = record { low = 2 * c.0; high = 2 * c.0 }
event EndOf c = record { low = 2 * c.1; high = 2 * c.1 }
event Interior c = record { low = 2 * c.0 + 1; high = 2 * c.1 - 1 }

-- the events of a type
abbrev pub events : List (List Sym) → Event → List Interval
events T e = map (event e.part) (constituents (tier_word T e.tier))

abbrev pub greatest_low : List Interval → ℕ
greatest_low [] = 0
greatest_low (x ∷ xs) = max x.low (greatest_low xs)

-- the least of a number and the high ends
abbrev pub least_from : ℕ → List Interval → ℕ
least_from h [] = h
least_from h (x ∷ xs) = min x.high (least_from h xs)

abbrev pub least_high : List Interval → ℕ
least_high [] = 0
least_high (x ∷ xs) = least_from x.high xs

abbrev pub meet : List Interval → Interval
meet xs = record { low = greatest_low xs; high = least_high xs }

-- there is a meet
abbrev pub is_there : Interval → Bool
is_there m = nat_le m.low m.high
