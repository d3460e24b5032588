-- Steps of an automaton along tests: the cells of a search are the pairs of a state and a place, and
-- there is one test, a class of columns, for staying at a place, and one for going on to each place.
use Rattle.std.specs.Prelude.{◌≡◌, ◌<◌, ◌+◌, ◌*◌, ◌^◌, ◌⊎◌, ℕ, Bool, false, IsTrue, List, [], All, AllPairs, Contains, Some, length, map, slice_get, slice_index_or}
use Rattle.tier_core.specs.declared.sym.Sym.{Sym}
use Rattle.tier_core.specs.declared.class.Class.{Class}
use Rattle.tier_core.specs.Classes.{has, sets_of, AreDisjoint}
use Rattle.answer_text.specs.declared.automaton.ArcLine.{ArcLine}
use Rattle.answer_text.specs.declared.automaton.StateLine.{StateLine}
use Rattle.answer_text.specs.Right.{numbers_of}
use Rattle.first_paths.specs.Search.{ReadsFrom}
use Rattle.comprehend.specs.Searches.{no_distance}

-- the arcs of the state at this position in the list
abbrev pub arcs_at : List StateLine → ℕ → List ArcLine
arcs_at states s = slice_index_or (map (λ state. state.arcs.items) states) s []

-- whether the state at this position in the list is final
abbrev pub final_at : List StateLine → ℕ → Bool
final_at states s = slice_index_or (map (λ state. state.accepting) states) s false

-- whether a test holds a column
abbrev pub test_has : List Class → ℕ → List Sym → Bool
test_has tests k column = slice_index_or (map (λ test. has test column) tests) k false

-- from a place a column leads to the next: test 0 holds it if the place stays, and otherwise the test of
-- the next place
abbrev pub Turns : List Class → ℕ → List Sym → ℕ → Type 0
Turns tests place column next =
    ((next ≡ place) × IsTrue (test_has tests 0 column))
    ⊎ ((next ≡ place + 1) × IsTrue (test_has tests next column))

-- On a column an arc leads from one cell to another. With n tests the cell of a state and a place has
-- the number state * n + place.
pub record Goes (states : List StateLine) (tests : List Class) (v : ℕ) (column : List Sym) (w : ℕ) : Type 0 where
  pub source : ℕ
  pub target : ℕ
  pub place : ℕ
  pub next : ℕ
  pub leaves : v ≡ source * length tests + place
  pub arrives : w ≡ target * length tests + next
  pub before : place < length tests
  pub after : next < length tests
  pub arc : ArcLine
  pub listed : Contains (arcs_at states source) arc
  pub leads : slice_get (numbers_of states) target ≡ Some arc.target
  pub holds : IsTrue (has arc.class column)
  pub turns : Turns tests place column next

-- a cell of a final state and the last place
pub record IsEndCell (states : List StateLine) (tests : List Class) (v : ℕ) : Type 0 where
  pub state : ℕ
  pub final : IsTrue (final_at states state)
  pub cell : v + 1 ≡ state * length tests + length tests

-- all classes have one width, there is a test, and the cells have numbers
pub record AreSearchable (width : ℕ) (states : List StateLine) (tests : List Class) : Type 0 where
  pub arc_widths : (s : ℕ) (arc : ArcLine) → Contains (arcs_at states s) arc → length (sets_of arc.class) ≡ width
  pub test_widths : All (λ test. length (sets_of test) ≡ width) tests
  pub some_test : 0 < length tests
  pub few_states : length states < 2 ^ 32
  pub few_tests : length tests < 2 ^ 32
  pub few : length states * length tests < no_distance

-- no column is in two arcs of a state
abbrev pub AreApart : List StateLine → Type 0
AreApart states = (s : ℕ) → AllPairs (λ a b. AreDisjoint a.class b.class) (arcs_at states s)

-- no column that stays at a place goes on to one
abbrev pub AreTestsApart : List Class → Type 0
AreTestsApart tests = (k : ℕ) (column : List Sym) → IsTrue (test_has tests 0 column)
    → IsTrue (test_has tests (k + 1) column) → ⊥

-- a timeline leads along the tests, from node number 0 and the first place to an end
pub record ReadsAlong (states : List StateLine) (tests : List Class) (T : List (List Sym)) : Type 0 where
  pub start : ℕ
  pub numbered : slice_get (numbers_of states) start ≡ Some 0
  pub reads : ReadsFrom (Goes states tests) (IsEndCell states tests) (start * length tests) T
