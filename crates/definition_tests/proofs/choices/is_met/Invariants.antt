use Rattle.std.proofs.Common.{◌≡◌, drop}
use Rattle.violation.specs.Counts.{is_met}
use Rattle.definition_tests.specs.Spans.{interval}
use Rattle.definition_tests.proofs.choices.is_met.Given as goal

-- no event of a type before this one has a meet
abbrev pub invariant-loop-event : goal.invariant-loop-event
invariant-loop-event l = is_met l.columns l.types (interval l.met)
    ≡ is_met l.columns (drop l.event-index l.types) (interval l.met)
