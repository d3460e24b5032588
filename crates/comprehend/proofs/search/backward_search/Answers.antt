use Rattle.std.proofs.Common.{◌≡◌, ◌+◌, ◌<◌, ℕ, [], List, length, get_or, sym, subst, arith}
use Rattle.std.proofs.{lemmas.Bool.{eqb-true, eqb-false}, lemmas.List.Elements.Contains-get_or}
use Rattle.comprehend.specs.{Searches.Reaches, Steps.{Goes, IsEndCell}}
use Rattle.first_paths.{specs.Search.IsPredecessor, proofs.Searching.{search_next, search_end}}
use Rattle.comprehend.proofs.Reaching.{known_inside}
use Rattle.comprehend.proofs.search.backward_search.Goals as goal

pub next_level-requires-clause-inside : goal.next_level-requires-clause-inside
next_level-requires-clause-inside c =
    let level = c.levels.level.items in
    rw c.deref.ensures.value (λ k d l. known_inside c.levels.left.items (get_or level k d) c.levels.n
    (c.levels.invariant.level_is (get_or level k d) (Contains-get_or level k d l)))

pub levels-preserved : goal.levels-preserved
levels-preserved c =
    let states = c.args.states.now in
    let tests = c.args.tests.now in
    let left = c.levels.left.items in
    let level = c.levels.level.items in
    let ne = eqb-false c.levels.level.len 0 (sym c.levels-test.ensures) in
    let some_level : 0 < length level = omega (arith, c.levels.level.ok) in
    let R : List ℕ → Type 0 = λ xs. Reaches (IsPredecessor (Goes states tests) xs)
    (c.levels.n + 1) left c.next_level.new.left.items [] c.in_ok-level.level.items in
    search_next (Goes states tests)
    (IsEndCell states tests) _ left c.next_level.new.left.items level c.in_ok-level.level.items c.levels.n
    c.levels.invariant some_level (subst R c.deref.ensures.value c.in_ok-level.ensures)

pub returns-clause-lengths : goal.returns-clause-lengths
returns-clause-lengths c =
    let none : c.levels.level.len ≡ 0 = eqb-true c.levels.level.len 0 (sym c.levels-test.ensures) in
    search_end (Goes c.args.states.now c.args.tests.now)
    (IsEndCell c.args.states.now c.args.tests.now) _ c.levels.left.items c.levels.level.items c.levels.n
    c.levels.invariant (omega (arith, none, c.levels.level.ok))
