use Rattle.std.proofs.Common.{◌≡◌, Option, None, [], length, replicate, ap, sym, ◌∙◌, arith}
use Rattle.std.proofs.lemmas.List.{length-replicate}
use Rattle.weight_law.specs.declared.count.Count.{Count}
use Rattle.first_paths.specs.Counted.{Goes, IsEnd}
use Rattle.first_paths.proofs.{Reaching.reaches_none, Searching.search_start}
use Rattle.first_paths.proofs.{Counts.{unknown_count-none, none_left, none_only}}
use Rattle.first_paths.proofs.TableSteps.{IsEndBelow, end_skip, end_more, all_ends}
use Rattle.first_paths.proofs.lengths.at_the_end.Goals as goal

pub loop-state-init : goal.loop-state-init
loop-state-init c =
    let states = c.args.table.now.states.items in
    let all : c.in_ok-left.left.items ≡ replicate (length states) None =
    c.in_ok-left.ensures.items_if_clones_equal (none_only _ (λ x bad. bad))
    ∙ ap (λ n. replicate {A = Option Count} n None) c.len.ensures in
    rw (all, c.new-level.ensures.items)
    (reaches_none (IsEndBelow states 0) (λ q e. omega (arith, e.below)) 0 (replicate (length states) None) [])

pub loop-state-preserved-then-not-accepting : goal.loop-state-preserved-then-not-accepting
loop-state-preserved-then-not-accepting c =
    end_skip c.args.table.now.states.items c.loop-state.state (sym c.accepting.ensures ∙ c.if-not-accepting.true) _ _ _
    _ c.loop-state.invariant

pub look-requires : goal.look-requires
look-requires c =
    let size = length c.args.table.now.states.items in
    omega (arith, c.loop-state.invariant.same, length-replicate {A = Option Count} size None, c.loop-state-test.true)

pub loop-state-preserved : goal.loop-state-preserved
loop-state-preserved c =
    end_more c.args.table.now.states.items c.loop-state.state (sym c.accepting.ensures ∙ c.if-not-accepting.false) _ _ _
    _ _ _ c.loop-state.invariant c.in_ok-look.ensures

pub returns : goal.returns
returns c =
    let states = c.args.table.now.states.items in
    let size = length states in
    search_start (Goes states) (IsEnd states) size (replicate size None) c.loop-state.left.items
    c.loop-state.level.items (length-replicate {A = Option Count} size None) (unknown_count-none size) (none_left size)
    (all_ends states c.loop-state.state (omega (arith, c.loop-state-test.false)) _ _ _ _ c.loop-state.invariant)
