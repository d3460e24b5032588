use Rattle.std.proofs.Common.{take, All}
use Rattle.symbol_class.specs.Parts.{differs, IsAlike}
use Rattle.symbol_class.proofs.parts.are_whole.Given as goal

-- none so far need be parted
abbrev pub invariant-loop-class : goal.invariant-loop-class
invariant-loop-class l = All (IsAlike (differs l.test)) (take l.class-index l.classes)
