use Rattle.stage_tables.specs.PartedPieces.{ArePiecesBefore}
use Rattle.stage_tables.proofs.exploring.Exploring.pieces.Given as goal

abbrev pub invariant-loop-constraint : goal.invariant-loop-constraint
invariant-loop-constraint l = ArePiecesBefore l.self l.kind l.class l.pieces.items l.constraint
