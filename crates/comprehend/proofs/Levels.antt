-- One cell of a level more.
use Rattle.std.proofs.Common.{◌≡◌, ℕ, ◌+◌, ◌*◌, ◌<◌, ◌≤◌, List, [], length, get_or, map, take, sym, ap}
use Rattle.std.proofs.{Common.{◌∙◌, subst, arith, inl, inr}, lemmas.Bool.cases_lt, lemmas.Option.slice_get_cases}
use Rattle.std.proofs.lemmas.List.{get_or-map, get_or_past, length-map}
use Rattle.std.proofs.lemmas.List.Elements.{Contains-get_or}
use Rattle.std.specs.{Prelude.{All, Contains}, Global.Vec}
use Rattle.tier_core.specs.{declared.sym.Sym.Sym, declared.class.Class.Class, Classes.sets_of}
use Rattle.answer_text.specs.{declared.automaton.ArcLine.ArcLine, declared.automaton.StateLine.StateLine}
use Rattle.answer_text.specs.Right.{numbers_of}
use Rattle.comprehend.specs.{declared.entering.Entering.Entering, Searches.Reaches}
use Rattle.comprehend.specs.Steps.{arcs_at, Goes, AreSearchable}
use Rattle.comprehend.specs.Entering.{entering_at, AreReverseArcs, IsArcOf, ComesByOne}
use Rattle.first_paths.{specs.Search.{IsPredecessor}, proofs.Reaching.{reaches_same, reaches_more}}
use Rattle.comprehend.proofs.{Cells.cells_inside, Comings.{comes_goes, goes_comes}}

-- the arcs of a state of the list, as they are read
pub arcs_read : (states : List StateLine) (s : ℕ) (state : StateLine) (arcs : List ArcLine) → s < length states
    → arcs ≡ (get_or states s state).arcs.items → arcs ≡ arcs_at states s
arcs_read states s state arcs inside e = e ∙ sym (get_or-map (λ (x : StateLine). x.arcs.items) states s state [] inside)

-- what holds of the arcs of each state of the list, and of none
pub each_arcs : (P : List ArcLine → Type 0) (states : List StateLine) → P []
    → All (λ state. P state.arcs.items) states → (s : ℕ) → P (arcs_at states s)
each_arcs P states none all s = elim (slice_get_cases states s).1 [
  | inl x ↦ subst P (sym (get_or-map (λ (y : StateLine). y.arcs.items) states s x.0 [] x.1)) (all s x.0 x.1)
  | inr past ↦ subst P (sym (get_or_past (map (λ (y : StateLine). y.arcs.items) states) s []
      (omega (arith, past.0, length-map states (λ (y : StateLine). y.arcs.items))))) none
]

-- only states of the list have arcs
pub arcs_inside : (states : List StateLine) (s : ℕ) (arc : ArcLine) → Contains (arcs_at states s) arc
    → s < length states
arcs_inside states s arc here = elim (cases_lt s (length states)) [
  | inl l ↦ l
  | inr l ↦
      (let none : arcs_at states s ≡ [] = get_or_past (map (λ (x : StateLine). x.arcs.items) states) s []
      (omega (arith, l, length-map states (λ (x : StateLine). x.arcs.items))) in
      absurd (omega (arith, here.1, ap length none)))
]

-- the arcs that enter a state of the list
pub entering_are : (into : List (Vec Entering)) (t : ℕ) (arcs : Vec Entering) → t < length into
    → arcs ≡ get_or into t arcs → entering_at into t ≡ arcs.items
entering_are into t arcs inside is = get_or-map (λ (x : Vec Entering). x.items) into t arcs [] inside
    ∙ ap (λ (x : Vec Entering). x.items) (sym is)

module _ (states : List StateLine) (tests : List Class) (into : List (Vec Entering))
    (turned : AreReverseArcs (IsArcOf states) (numbers_of states) into) where
  pub entry_widths : (width : ℕ) → AreSearchable width states tests → (t : ℕ)
      → All (λ entry. All (λ test. length (sets_of test) ≡ length (sets_of entry.class)) tests) (entering_at into t)
  entry_widths width search t k d l j e m =
      let entry = get_or (entering_at into t) k d in
      let own = turned.sound t entry (Contains-get_or (entering_at into t) k d l) in
      search.test_widths j e m ∙ sym (search.arc_widths entry.source own.0 own.1.0)
      ∙ ap (λ (c : Class). length (sets_of c)) own.1.1

  pub entry_cells : (t : ℕ) → All (λ entry. entry.source * length tests + length tests ≤ length states * length tests)
      (entering_at into t)
  entry_cells t k d l =
      let entry = get_or (entering_at into t) k d in
      let own = turned.sound t entry (Contains-get_or (entering_at into t) k d l) in
      cells_inside entry.source (length states) (length tests) (arcs_inside states entry.source own.0 own.1.0)

  pub level_more : (n : ℕ) (level : List ℕ) (i to t q : ℕ) → i < length level → to ≡ get_or level i 0
      → to ≡ t * length tests + q → q < length tests
      → (old mid new before between after : List ℕ)
      → Reaches (IsPredecessor (Goes states tests) (take i level)) n old mid before between
      → Reaches (ComesByOne tests (entering_at into t) q) n mid new between after
      → Reaches (IsPredecessor (Goes states tests) (take (i + 1) level)) n old new before after
  level_more n level i to t q inside is cell below old mid new before between after first second =
      reaches_more (λ w v. (column : List Sym) × Goes states tests v column w) level i 0 to inside is n old mid new
      before between after first
      (reaches_same (ComesByOne tests (entering_at into t) q) (λ v. (column : List Sym) × Goes states tests v column to)
      (comes_goes states tests into turned to t q cell below)
      (λ v h. goes_comes states tests into turned to t q cell below v h.0 h.1) n mid new between after second)
