-- Arcs reversed: for each state those that enter it.
use Rattle.std.specs.Prelude.{◌≡◌, ◌<◌, ◌+◌, ◌*◌, ◌⊎◌, ℕ, IsTrue, List, [], Contains, Some, length, map, slice_get, slice_index_or}
use Rattle.std.specs.Global.{Vec}
use Rattle.tier_core.specs.declared.sym.Sym.{Sym}
use Rattle.tier_core.specs.declared.class.Class.{Class}
use Rattle.tier_core.specs.Classes.{has}
use Rattle.answer_text.specs.declared.automaton.ArcLine.{ArcLine}
use Rattle.answer_text.specs.declared.automaton.StateLine.{StateLine}
use Rattle.first_paths.specs.Search.{LeadsToOne}
use Rattle.comprehend.specs.declared.entering.Entering.{Entering}
use Rattle.comprehend.specs.Steps.{arcs_at, test_has}

-- the arcs that enter a state
abbrev pub entering_at : List (Vec Entering) → ℕ → List Entering
entering_at into t = slice_index_or (map (λ arcs. arcs.items) into) t []

-- each is an arc to state t, of those that pass, reversed
abbrev pub IsReverseArc : (ℕ → ArcLine → Type 0) → List ℕ → ℕ → Entering → Type 0
IsReverseArc passes numbers t entry =
    (arc : ArcLine) × (passes entry.source arc × (arc.class ≡ entry.class) × (slice_get numbers t ≡ Some arc.target))

-- the arcs that pass, from the state at a position in the list, are reversed
pub record AreReverseArcs (passes : ℕ → ArcLine → Type 0) (numbers : List ℕ) (into : List (Vec Entering)) : Type 0 where
  pub each_state : length into ≡ length numbers
  pub sound : (t : ℕ) (entry : Entering) → Contains (entering_at into t) entry → IsReverseArc passes numbers t entry
  pub complete : (s t : ℕ) (arc : ArcLine) → passes s arc → slice_get numbers t ≡ Some arc.target
      → (entry : Entering) × (Contains (entering_at into t) entry × (entry.source ≡ s) × (entry.class ≡ arc.class))

-- the arcs of all states
abbrev pub IsArcOf : List StateLine → ℕ → ArcLine → Type 0
IsArcOf states s arc = Contains (arcs_at states s) arc

-- a test and a class hold a column in common
abbrev pub MeetsTest : List Class → ℕ → Class → Type 0
MeetsTest tests k class = (column : List Sym) × (IsTrue (has class column) × IsTrue (test_has tests k column))

-- the cells from which an arc of this class, from this state, leads to a place
abbrev pub ComesBy : List Class → ℕ → Class → ℕ → ℕ → Type 0
ComesBy tests source class place v =
    (MeetsTest tests 0 class × (v ≡ source * length tests + place))
    ⊎ ((before : ℕ) × ((before + 1 ≡ place) × MeetsTest tests place class × (v ≡ source * length tests + before)))

-- the cells from which one of the entering arcs leads to a place
abbrev pub ComesByOne : List Class → List Entering → ℕ → ℕ → Type 0
ComesByOne tests entries place = LeadsToOne (λ entry v. ComesBy tests entry.source entry.class place v) entries

-- the arcs of the states before a position in the list
abbrev pub IsArcBelow : List StateLine → ℕ → ℕ → ArcLine → Type 0
IsArcBelow states n s arc = (s < n) × Contains (arcs_at states s) arc

-- there are so many states, and no arc enters one of them
pub record AreNotEntered (count : ℕ) (into : List (Vec Entering)) : Type 0 where
  pub each_state : length into ≡ count
  pub none : (t : ℕ) → entering_at into t ≡ []
