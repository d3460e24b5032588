-- Conjunctions as sets of types of events.
use Rattle.std.specs.Prelude.{◌↔◌, List, Contains}
use Rattle.tier_core.specs.declared.event.Event.{Event}

-- the types of one list are those of another, in whatever order and however often
pub record AreSameTypes (types others : List Event) : Type 0 where
  pub each : (e : Event) → Contains types e ↔ Contains others e
