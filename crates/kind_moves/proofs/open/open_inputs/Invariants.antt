use Rattle.tier_core.specs.Tables.{tiers_of_table}
use Rattle.kind_moves.proofs.OpenPlaces.{AreSoFar}
use Rattle.kind_moves.proofs.open.open_inputs.Given as goal

abbrev pub invariant-loop-place : goal.invariant-loop-place
invariant-loop-place l = AreSoFar (tiers_of_table l.tiers) l.form l.place l.masks.items
