-- What waits at first, and what is kept while the least weight that waits is taken first.
use Rattle.std.specs.Prelude.{◌≡◌, ℕ, zero, suc, List, [], ◌∷◌, ◌++◌, Option, None, Some, length, slice_index_or, slice_set, if◌then◌else◌}
use Rattle.weight_law.specs.declared.Weight.{Ghosts}
use Rattle.weight_law.specs.Meaning.{Meaning}
use Rattle.arc_table.specs.declared.state.TableState.{TableState}
use Rattle.arc_table.specs.declared.incoming_move.IncomingMove.{IncomingMove}
use Rattle.arc_table.specs.Moves.{accepting_at}
use Rattle.distances.specs.Best.{lesser_of}
use Rattle.distances.specs.Rounds.{AreWitnessed, IsCovered}

-- the accepting states below n
abbrev pub ends_below : {W : Type 0} {g : Ghosts W} → List (TableState W g) → ℕ → List ℕ
ends_below states zero = []
ends_below states (suc n) = ends_below states n ++ (if accepting_at states n then n ∷ [] else [])

-- the weight c at state s, if it is less than what is known there
abbrev pub lower_at : {W : Type 0} → Meaning W → List (Option W) → ℕ → W → List (Option W)
lower_at m least s c = slice_set least s (lesser_of m (slice_index_or least s None) (Some c))

-- what is known after a look at moves to a state with weight w, one by one
abbrev pub relax_all : {W : Type 0} → Meaning W → W → List (Option W) → List (IncomingMove W) → List (Option W)
relax_all m w least [] = least
relax_all m w least (move ∷ moves) = relax_all m w (lower_at m least move.source (m.sum move.weight w)) moves

-- known weights are still those of runs, and none has risen
pub record KeepsWitnesses {W : Type 0} {g : Ghosts W} (states : List (TableState W g))
    (old new : List (Option W)) : Type 0 where
  pub each_state : length new ≡ length states
  pub witnessed : AreWitnessed states new
  pub covered : (k : ℕ) → IsCovered states old k → IsCovered states new k
