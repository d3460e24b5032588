use Rattle.std.proofs.{Common.{◌*◌, [], length, replicate, arith}, lemmas.List.length-replicate}
use Rattle.comprehend.specs.{Searches.no_distance, Steps.{Goes, IsEndCell}}
use Rattle.first_paths.proofs.{Reaching.reaches_none, Searching.search_start}
use Rattle.comprehend.proofs.{Cells.cells_inside, Reaching.{unknown_count-no_distance, none_left}, Ends.{IsEndBelow, no_end_below, end_more, all_ends}}
use Rattle.comprehend.proofs.search.at_the_ends.Goals as goal

pub loop-number-init : goal.loop-number-init
loop-number-init c =
    let size = length c.args.states.now * length c.args.tests.now in
    rw (c.in_ok-left.ensures.items_if_clones_equal (λ y same. same), c.new-level.ensures.items)
    (reaches_none (IsEndBelow c.args.states.now c.args.tests.now 0)
    (no_end_below c.args.states.now c.args.tests.now) 0 (replicate size no_distance) [])

pub look-requires-clause-cell : goal.look-requires-clause-cell
look-requires-clause-cell c =
    let size = length c.args.states.now * length c.args.tests.now in
    λ accepting. omega (
      arith,
      c.cell-end.ensures,
      c.requires.searchable.1.some_test,
      c.loop-number.invariant.same,
      length-replicate size no_distance,
      cells_inside c.loop-number.number (length c.args.states.now)
          (length c.args.tests.now) c.loop-number-test.true,
    )

pub loop-number-preserved : goal.loop-number-preserved
loop-number-preserved c =
    end_more c.args.states.now c.args.tests.now c.loop-number.number c.cell-end.result c.index-states-number.result
    c.loop-number-test.true c.index-states-number.is
    (omega (arith, c.cell-end.ensures, c.requires.searchable.1.some_test))
    _ c.loop-number.left.items c.look.new.left.items _ c.loop-number.level.items c.look.new.next.items
    c.loop-number.invariant c.in_ok-look.ensures

pub returns : goal.returns
returns c =
    let states = c.args.states.now in
    let tests = c.args.tests.now in
    let size = length states * length tests in
    search_start (Goes states tests) (IsEndCell states tests) size
    (replicate size no_distance) c.loop-number.left.items c.loop-number.level.items (length-replicate size no_distance)
    (unknown_count-no_distance size) (none_left size)
    (all_ends states tests c.loop-number.number c.loop-number-test.false _ c.loop-number.left.items _
    c.loop-number.level.items c.loop-number.invariant)
