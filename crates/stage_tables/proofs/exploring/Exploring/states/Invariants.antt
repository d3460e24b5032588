use Rattle.std.proofs.Common.{◌-◌, length}
use Rattle.stage_tables.specs.{Listed.AreTaken, Exploring.IsFoundWithin}
use Rattle.stage_tables.proofs.exploring.Exploring.states.Given as goal

abbrev pub invariant-making : goal.invariant-making
invariant-making l = record {
  found : IsFoundWithin l.self l.listed;
  taken : AreTaken l.self.frame.now l.self.first l.self.stage l.self.kept.now.states.items l.listed.kinds.entries
      l.states.items;
}

abbrev pub decreases-making : goal.decreases-making
decreases-making l = l.self.budget - length l.states.items
