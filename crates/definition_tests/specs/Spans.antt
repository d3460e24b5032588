-- Spans as intervals of doubled time.
use Rattle.std.specs.Prelude.{List, [], ◌∷◌, Option, Some, None}
use Rattle.tier_core.specs.Events.{Interval}
use Rattle.definition_tests.specs.declared.span.Span.{Span}

abbrev pub interval : Span → Interval
interval span = record { low = span.low; high = span.high }

-- what was chosen so far: nothing, or its meet
abbrev pub intervals_of : Option Span → List Interval
intervals_of None = []
intervals_of (Some span) = interval span ∷ []
