use Rattle.std.proofs.Common.{take}
use Rattle.violation.specs.Problems.{problem_from}
use Rattle.comprehend.specs.Hears.{forms_of, Hears, AreEntriesWithin}
use Rattle.comprehend.proofs.hearing.comprehend.Given as goal

abbrev pub invariant-loop-index : goal.invariant-loop-index
invariant-loop-index l = record {
  hears : Hears (problem_from l.grammar.tiers l.grammar.constraints.items)
      (take l.index (forms_of l.lexicon)) l.surface l.hits.items;
  within : AreEntriesWithin (problem_from l.grammar.tiers l.grammar.constraints.items)
      (take l.index (forms_of l.lexicon)) l.budget;
}
