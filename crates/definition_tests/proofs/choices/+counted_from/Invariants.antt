use Rattle.std.proofs.Common.{◌≡◌, ◌+◌, drop, length, map}
use Rattle.tier_core.specs.Events.{events}
use Rattle.violation.specs.Counts.{choices}
use Rattle.definition_tests.specs.{Counting.{counts_meet, counted_after}, Spans.{interval, intervals_of}}
use Rattle.definition_tests.proofs.ChoiceSteps.{counted_by}
use Rattle.definition_tests.proofs.choices.+counted_from.Given as goal

-- all choices are those counted so far, and those whose next event is left
abbrev pub invariant-loop-span : goal.invariant-loop-span
invariant-loop-span l =
    counted_after l.family l.right l.columns (intervals_of l.chosen) l.types
    ≡ l.count + counted_by (counts_meet l.family l.right l.columns) (intervals_of l.chosen)
    (map interval (drop l.span-index l.span-items)) (choices (map (events l.columns) l.others))

abbrev pub decreases-counted_from : goal.decreases-counted_from
decreases-counted_from l = length l.types.now
