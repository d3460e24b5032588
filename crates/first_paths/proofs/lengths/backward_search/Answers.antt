use Rattle.std.proofs.Common.{◌≡◌, ◌+◌, ◌<◌, ℕ, [], List, length, sym, subst, arith}
use Rattle.std.proofs.lemmas.Bool.{eqb-true, eqb-false}
use Rattle.first_paths.specs.Counted.{unknown_count, Goes, IsEnd, IsBefore, Reaches}
use Rattle.first_paths.proofs.{Searching.{search_next, search_end}, TableSteps.{before_inside, level_inside, before_is}}
use Rattle.first_paths.proofs.lengths.backward_search.Goals as goal

pub next_level-requires-clause-inside : goal.next_level-requires-clause-inside
next_level-requires-clause-inside c =
    let table = c.args.table.now in
    rw c.deref.ensures.value (λ k d l. omega (
      arith,
      level_inside table.states.items c.args.incoming.now c.requires c.levels.left.items
          c.levels.level.items c.levels.n c.levels.invariant k d l,
      c.requires.each_state,
    ))

pub next_level-requires-clause-sources : goal.next_level-requires-clause-sources
next_level-requires-clause-sources c =
    let table = c.args.table.now in
    let level = c.levels.level.items in
    let inside = level_inside table.states.items c.args.incoming.now c.requires c.levels.left.items
    level c.levels.n c.levels.invariant in
    rw c.deref.ensures.value (λ q from. omega (
      arith,
      before_inside table.states.items c.args.incoming.now c.requires level inside q from,
      c.levels.invariant.each,
    ))

pub overflow_add-n : goal.overflow_add-n
overflow_add-n c =
    let ne = eqb-false c.levels.level.len 0 (sym c.levels-test.ensures) in
    let some_level : 0 < length c.levels.level.items = omega (arith, c.levels.level.ok) in
    omega (arith, c.levels.invariant.few, c.args.table.now.few, some_level)

pub levels-preserved : goal.levels-preserved
levels-preserved c =
    let states = c.args.table.now.states.items in
    let level = c.levels.level.items in
    let ne = eqb-false c.levels.level.len 0 (sym c.levels-test.ensures) in
    let some_level : 0 < length level = omega (arith, c.levels.level.ok) in
    let R : List ℕ → Type 0 = λ vertices. Reaches (IsBefore c.args.incoming.now vertices)
    (c.levels.n + 1) c.levels.left.items c.next_level.new.left.items [] c.in_ok-level.level.items in
    let inside = level_inside states c.args.incoming.now c.requires c.levels.left.items level c.levels.n
    c.levels.invariant in
    search_next (Goes states) (IsEnd states) (length states) c.levels.left.items c.next_level.new.left.items level
    c.in_ok-level.level.items c.levels.n c.levels.invariant some_level
    (before_is states c.args.incoming.now c.requires c.args.table.now.filled level inside _ _ _ _ _
    (subst R c.deref.ensures.value c.in_ok-level.ensures))

pub levels-smaller : goal.levels-smaller
levels-smaller c =
    let level = c.levels.level.items in
    let ne = eqb-false c.levels.level.len 0 (sym c.levels-test.ensures) in
    let some_level : 0 < length level = omega (arith, c.levels.level.ok) in
    let number : unknown_count c.next_level.new.left.items + length c.in_ok-level.level.items
    ≡ unknown_count c.levels.left.items + 0 = c.in_ok-level.ensures.number in
    omega (arith, number, some_level)

pub returns-clause-lengths : goal.returns-clause-lengths
returns-clause-lengths c =
    let states = c.args.table.now.states.items in
    let none : c.levels.level.len ≡ 0 = eqb-true c.levels.level.len 0 (sym c.levels-test.ensures) in
    search_end (Goes states) (IsEnd states) (length states) c.levels.left.items c.levels.level.items c.levels.n
    c.levels.invariant (omega (arith, none, c.levels.level.ok))
