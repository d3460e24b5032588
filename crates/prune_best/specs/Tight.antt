-- The table of the words of least weight.
use Rattle.std.specs.Prelude.{◌≡◌, ◌≢◌, ◌<◌, ◌↔◌, ℕ, List, Contains, length, slice_index_or}
use Rattle.weight_law.specs.declared.Weight.{Ghosts}
use Rattle.tier_core.specs.declared.sym.Sym.{Sym}
use Rattle.arc_table.specs.declared.arc.TableArc.{TableArc}
use Rattle.arc_table.specs.declared.state.TableState.{TableState}
use Rattle.arc_table.specs.Moves.{moves_at, accepting_at}
use Rattle.arc_table.specs.Runs.{Accepts, IsLeastWord, IsLeastFrom, IsOnRun}
use Rattle.prune_best.specs.Kept.{Matches}

-- a move on which the least weights are tight: its weight and the least weight from its target add
-- up to the least weight from state s
abbrev pub IsLeastMove : {W : Type 0} {g : Ghosts W} → List (TableState W g) → ℕ → TableArc W g → Type 0
IsLeastMove {W} {g} states s arc =
    (here : W) × (rest : W) × IsLeastFrom states s here × IsLeastFrom states arc.target rest ×
    (g.meaning.sum arc.weight rest ≡ here)

-- the states of `new` accept the words of least weight of `old`; `names` names its states in `old`,
-- and its moves are exactly the least moves from the states that are named
pub record IsTight {W V : Type 0} {g : Ghosts W} {h : Ghosts V} (old : List (TableState W g))
    (new : List (TableState V h)) (names : List ℕ) : Type 0 where
  pub accepts : (word : List (List Sym)) → Accepts new word ↔ IsLeastWord old word
  pub on_runs : (k : ℕ) → k < length new → IsOnRun new k
  pub each_named : length names ≡ length new
  pub within : (k : ℕ) → k < length names → slice_index_or names k 0 < length old
  pub distinct : (j k : ℕ) → j < k → k < length names → slice_index_or names j 0 ≢ slice_index_or names k 0
  pub start : slice_index_or names 0 0 ≡ 0
  pub accepting : (k : ℕ) → k < length new → accepting_at new k ≡ accepting_at old (slice_index_or names k 0)
  pub moves : (k : ℕ) (b : TableArc V h) → k < length new → Contains (moves_at new k) b →
      (a : TableArc W g) × Contains (moves_at old (slice_index_or names k 0)) a × IsLeastMove old
      (slice_index_or names k 0) a × Matches names a b
  pub keeps : (k : ℕ) (a : TableArc W g) → k < length new → Contains (moves_at old (slice_index_or names k 0)) a
      → IsLeastMove old (slice_index_or names k 0) a →
      (b : TableArc V h) × Contains (moves_at new k) b × Matches names a b
