use Rattle.std.proofs.Common.{◌≡◌, ◌-◌, length, take}
use Rattle.tier_core.specs.Sets.{AreSets}
use Rattle.answer_reader.specs.Classes.{class_of}
use Rattle.answer_reader.proofs.ClassLoop.{behind_sets}
use Rattle.answer_reader.proofs.class.class_of.Given as goal

-- the sets so far, and those of the tiers that are left
abbrev pub invariant-loop-tier : goal.invariant-loop-tier
invariant-loop-tier l = record {
  size : length l.sets ≡ 12;
  sets : AreSets (take l.tier l.sets);
  rest : behind_sets (take l.tier l.sets) (class_of (l.tier-end - l.tier) l.rest) ≡ class_of l.width l.text;
}
