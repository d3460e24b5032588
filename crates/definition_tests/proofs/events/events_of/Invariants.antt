use Rattle.std.proofs.Common.{◌≡◌, ◌++◌, map}
use Rattle.tier_core.specs.Events.{event, events}
use Rattle.definition_tests.specs.Spans.{interval}
use Rattle.definition_tests.proofs.WordSteps.{left_from}
use Rattle.definition_tests.proofs.events.events_of.Given as goal

-- the events so far, and those of the constituents that are left
abbrev pub invariant-loop-place : goal.invariant-loop-place
invariant-loop-place l = map interval l.spans.items
    ++ map (event l.event.part) (left_from l.columns l.event.tier l.place) ≡ events l.columns l.event
