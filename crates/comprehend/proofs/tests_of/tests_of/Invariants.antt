use Rattle.std.proofs.Common.{◌≡◌, ◌∷◌, map, take}
use Rattle.tier_core.specs.{Classes.sets_of, Sets.single_set}
use Rattle.comprehend.specs.Tests.{still_sets, heard_sets}
use Rattle.comprehend.proofs.tests_of.tests_of.Given as goal

abbrev pub invariant-loop-column : goal.invariant-loop-column
invariant-loop-column l = record {
  sets : map sets_of l.tests.items ≡ still_sets l.kinds ∷ map (λ column. heard_sets l.kinds (map single_set column) 0)
      (take l.column-index l.surface);
}
