use Rattle.std.proofs.Common.{◌≡◌}
use Rattle.definition_tests.proofs.WordSteps.{end_from}
use Rattle.definition_tests.proofs.events.next_end.Given as goal

-- no place before this one has an end
abbrev pub invariant-loop-place : goal.invariant-loop-place
invariant-loop-place l = end_from l.columns l.tier l.from ≡ end_from l.columns l.tier l.place
