use Rattle.symbol_class.specs.Parts.{ArePartedBy}
use Rattle.kind_moves.specs.Pieces.{opened_by}
use Rattle.kind_moves.proofs.parting.parts_by_open.Given as goal

abbrev pub invariant-loop-tier : goal.invariant-loop-tier
invariant-loop-tier l = ArePartedBy l.width (opened_by l.tier) l.initial.parts.items l.parts.items
