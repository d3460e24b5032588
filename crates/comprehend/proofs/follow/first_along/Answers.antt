use Rattle.std.proofs.Common.{◌≡◌, ◌↔◌, ◌<◌, ◌+◌, ◌*◌, ℕ, List, Option, Some, length, sym, ap, ◌∙◌, subst, arith}
use Rattle.std.proofs.{lemmas.Option.slice_get_within, lemmas.List.{get_or_default, length-map}}
use Rattle.std.specs.Prelude.{slice_get}
use Rattle.tier_core.specs.{declared.sym.Sym.Sym, Orders.IsFirst, declared.class.Class.Class}
use Rattle.answer_text.specs.{declared.automaton.StateLine.StateLine, Right.numbers_of}
use Rattle.first_paths.specs.Search.{ReadsFrom}
use Rattle.comprehend.specs.{Searches.no_distance, Steps.{Goes, IsEndCell, AreSearchable}}
use Rattle.comprehend.proofs.{Cells.cells_inside, Numbers.once_at}
use Rattle.comprehend.proofs.follow.first_along.Goals as goal

-- the first cell of a state of the list is within the cells
first_cell : (states : List StateLine) (tests : List Class) (width : ℕ) → AreSearchable width states tests
    → (state : ℕ) → slice_get (numbers_of states) state ≡ Some 0
    → state * length tests + 0 < length states * length tests
first_cell states tests width search state at =
    let inside = slice_get_within (numbers_of states) state 0 at in
    omega (
      arith,
      cells_inside state (length states) (length tests)
          (omega (arith, inside, length-map states (λ (x : StateLine). x.node))),
      search.some_test,
    )

-- a place in numbers that are those of the states is that of a state
numbered : (states : List StateLine) {numbers : List ℕ} {found : Option ℕ} (state : ℕ) → numbers ≡ numbers_of states
    → found ≡ Some state → ((place : ℕ) → (found ≡ Some place) ↔ (slice_get numbers place ≡ Some 0))
    → slice_get (numbers_of states) state ≡ Some 0
numbered states state e is found = ap (λ ns. slice_get ns state) (sym e) ∙ (found state).0 is

pub cell-start-requires : goal.cell-start-requires
cell-start-requires c =
    let at = numbered c.args.states.now c.in-Some.state c.in-Ok.ensures c.in-Some.is c.place_of.ensures in
    omega (
      arith,
      first_cell c.args.states.now c.args.tests.now c.requires.searchable.0 c.requires.searchable.1 c.in-Some.state at,
      c.requires.searchable.1.few,
    )

pub index-most-requires : goal.index-most-requires
index-most-requires c =
    let at = numbered c.args.states.now c.in-Some.state c.in-Ok.ensures c.in-Some.is c.place_of.ensures in
    omega (
      arith,
      first_cell c.args.states.now c.args.tests.now c.requires.searchable.0 c.requires.searchable.1 c.in-Some.state at,
      c.cell-start.ensures,
      c.in-Ok-lengths.ensures.each,
      c.in-Ok-lengths.left.ok,
    )

pub follow-requires-clause-start : goal.follow-requires-clause-start
follow-requires-clause-start c =
    let states = c.args.states.now in
    let tests = c.args.tests.now in
    let state = c.in-Some.state in
    let left = c.in-Ok-lengths.left.items in
    let start = c.cell-start.result in
    let at = numbered states state c.in-Ok.ensures c.in-Some.is c.place_of.ensures in
    let inside : start < length left = omega (
      arith,
      first_cell states tests c.requires.searchable.0 c.requires.searchable.1 state at,
      c.cell-start.ensures,
      c.in-Ok-lengths.ensures.each,
    ) in
    rw c.deref.ensures.value (record {
      number = get_or_default left start no_distance c.index-most.result.now inside
          ∙ sym c.index-most.ensures;
      near = c.if-most-ge-FAR.false;
    })

pub returns-in-Ok-follow : goal.returns-in-Ok-follow
returns-in-Ok-follow c =
    let states = c.args.states.now in
    let tests = c.args.tests.now in
    let state = c.in-Some.state in
    let at = numbered states state c.in-Ok.ensures c.in-Some.is c.place_of.ensures in
    let first : IsFirst (ReadsFrom (Goes states tests)
    (IsEndCell states tests) c.cell-start.result) c.in-Ok-follow.first = c.in-Ok-follow.ensures in
    let start : c.cell-start.result ≡ state * length tests = omega (arith, c.cell-start.ensures) in
    let P : List (List Sym) → ℕ → Type 0 = λ T v. ReadsFrom (Goes states tests) (IsEndCell states tests) v T in
    record {
      member = record { start = state; numbered = at; reads = subst (P c.in-Ok-follow.first) start first.member };
      least = λ U along.
          (let same : along.start ≡ state = once_at
          (numbers_of states) 0 c.requires.once along.start state along.numbered at in
          first.least U (subst (P U) (ap (λ s. s * length tests) same ∙ sym start) along.reads));
    }
