-- Surfaces of timelines, and the timelines of an automaton that have one.
use Rattle.std.specs.Prelude.{◌≡◌, ◌≢◌, ℕ, List, All, AllPairs, length, map}
use Rattle.tier_core.specs.declared.sym.Sym.{Sym}
use Rattle.tier_core.specs.Tiers.{Tiers}
use Rattle.tier_core.specs.Timelines.{symbol, project, squeeze, IsReduced, IsWellFormed}
use Rattle.violation.specs.Candidates.{IsOptimal}
use Rattle.violation.specs.Problems.{Problem}
use Rattle.answer_text.specs.declared.automaton.StateLine.{StateLine}
use Rattle.answer_text.specs.Acceptance.{Accepts}
use Rattle.answer_text.specs.Sound.{AreSoundArcs}
use Rattle.answer_text.specs.Right.{numbers_of}

-- the symbols that a column has on the overt tiers
abbrev pub heard_in : List ℕ → List Sym → List Sym
heard_in overt column = map (symbol column) overt

-- the surface of a timeline: its projection to the overt tiers, squeezed
abbrev pub surface_of : List ℕ → List (List Sym) → List (List Sym)
surface_of overt T = squeeze (project overt T)

-- s is a surface: it is well formed and reduced over the overt tiers
pub record IsSurface (tiers : Tiers) (s : List (List Sym)) : Type 0 where
  pub well_formed : IsWellFormed (length tiers.overt) s
  pub reduced : IsReduced s

-- the automaton with these states accepts a timeline that has this surface
pub record AcceptsHeard (states : List StateLine) (overt : List ℕ) (surface T : List (List Sym)) : Type 0 where
  pub accepted : Accepts states T
  pub heard : surface_of overt T ≡ surface

-- no state stands twice, and of each state no column is in two arcs, and each arc has this width and
-- leads to a state
pub record AreReadable (width : ℕ) (states : List StateLine) : Type 0 where
  pub distinct : AllPairs (λ m n. m ≢ n) (numbers_of states)
  pub arcs : All (λ state. AreSoundArcs width (numbers_of states) state.arcs.items) states

-- an optimal candidate that has this surface
pub record HasSurface (problem : Problem) (surface T : List (List Sym)) : Type 0 where
  pub optimal : IsOptimal problem T
  pub heard : surface_of problem.tiers.overt T ≡ surface
