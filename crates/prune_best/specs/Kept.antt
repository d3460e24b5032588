-- Moves that are kept.
use Rattle.std.specs.Prelude.{◌≡◌, ◌<◌, ℕ, Bool, List, Option, None, Some, Contains, AllPairs, IsSome, length, slice_index_or, ◌⊎◌}
use Rattle.weight_law.specs.declared.Weight.{Ghosts}
use Rattle.tier_core.specs.Classes.{AreDisjoint}
use Rattle.arc_table.specs.declared.arc.TableArc.{TableArc}
use Rattle.arc_table.specs.declared.state.TableState.{TableState}
use Rattle.arc_table.specs.Moves.{moves_at, accepting_at}
use Rattle.distances.specs.Best.{weight_through}
use Rattle.prune_best.specs.Names.{IsNamed}

-- the move's weight and the least weight from its target add up to w
abbrev pub IsTightArc : {W : Type 0} {g : Ghosts W} → List (Option W) → W → TableArc W g → Type 0
IsTightArc {W} {g} least w arc = weight_through g.meaning arc.weight (slice_index_or least arc.target None) ≡ Some w

-- the new move b is the old move a: it has the same class, and its target names that of a
abbrev pub Matches : {W V : Type 0} {g : Ghosts W} {h : Ghosts V} → List ℕ → TableArc W g → TableArc V h → Type 0
Matches names a b = (b.class ≡ a.class) × IsNamed names b.target a.target

-- the new moves are those of the first n old ones that are kept
pub record AreTightMoves {W V : Type 0} {g : Ghosts W} {h : Ghosts V} (least : List (Option W)) (names : List ℕ) (w : W)
    (arcs : List (TableArc W g)) (moves : List (TableArc V h)) (n : ℕ) : Type 0 where
  pub from : (b : TableArc V h) → Contains moves b
      → (j : ℕ) × (j < n) × ((d : TableArc W g)
      → IsTightArc least w (slice_index_or arcs j d) × Matches names (slice_index_or arcs j d) b)
  pub to : (j : ℕ) (d : TableArc W g) → j < n → IsTightArc least w (slice_index_or arcs j d)
      → (b : TableArc V h) × Contains moves b × Matches names (slice_index_or arcs j d) b
  pub apart : AllPairs (λ a b. AreDisjoint a.class b.class) arcs → AllPairs (λ a b. AreDisjoint a.class b.class) moves

-- what is named was named before, or is the target of a new move and has a weight
pub record NamesTargets {W V : Type 0} {h : Ghosts V} (least : List (Option W)) (old new : List ℕ)
    (moves : List (TableArc V h)) : Type 0 where
  pub stays : (j t : ℕ) → IsNamed old j t → IsNamed new j t
  pub others : (j t : ℕ) → IsNamed new j t
      → IsNamed old j t ⊎ ((b : TableArc V h) × Contains moves b × (b.target ≡ j) × IsSome
      (slice_index_or least t None))

-- a new state is old state s, with the moves that are kept
pub record IsNewState {W V : Type 0} {g : Ghosts W} {h : Ghosts V} (least : List (Option W)) (names : List ℕ)
    (old : List (TableState W g)) (s : ℕ) (accepting : Bool) (moves : List (TableArc V h)) : Type 0 where
  pub accepts : accepting ≡ accepting_at old s
  pub kept : (w : W) → slice_index_or least s None ≡ Some w
      → AreTightMoves least names w (moves_at old s) moves (length (moves_at old s))
