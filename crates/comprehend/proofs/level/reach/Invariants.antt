use Rattle.std.proofs.Common.{◌≤◌, length, take}
use Rattle.comprehend.specs.{Searches.Reaches, Entering.ComesByOne}
use Rattle.comprehend.proofs.level.reach.Given as goal

abbrev pub invariant-loop-entry : goal.invariant-loop-entry
invariant-loop-entry l = record {
  inside : l.entry-index ≤ length l.entries;
  reached : Reaches
      (ComesByOne l.tests
      (take l.entry-index l.entries) l.place) l.n l.initial.left.items l.left.items l.initial.next.items l.next.items;
}
