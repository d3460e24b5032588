use Rattle.std.proofs.Common.{ℕ, ◌<◌, length, slice_index_or}
use Rattle.tier_core.specs.Classes.{AreDisjoint}
use Rattle.definition_tests.proofs.fit.all_apart.Given as goal

abbrev pub invariant-loop-place : goal.invariant-loop-place
invariant-loop-place l = (i j : ℕ) (d : _) → i < l.place → i < j → j < length l.arcs
    → AreDisjoint (slice_index_or l.arcs i d).class (slice_index_or l.arcs j d).class
