use Rattle.std.proofs.{Common.{◌≡◌, ◌&&◌, ◌++◌, true, ap, ap₂, sym, ◌∙◌, arith}, lemmas.List.Folds.list_all-append}
use Rattle.std.specs.List.{list_all}
use Rattle.tier_core.specs.{declared.event.Event.Event, Classes.has, Sides.edge_among, Tiers.has_tier}
use Rattle.kind_moves.proofs.Answering.{is_ended}
use Rattle.kind_moves.proofs.cost_tests.overlap_ends.Goals as goal

pub returns-clause-columns : goal.returns-clause-columns
returns-clause-columns c column wide =
    let left = c.args.left.now in
    let right = c.args.right.now in
    let all : list_all (λ (e : Event). has_tier c.args.opened e.tier) (left ++ right) ≡ true =
    list_all-append (λ (e : Event). has_tier c.args.opened e.tier) left right
    ∙ ap₂ (λ a b. a && b) (sym c.are_all_in.ensures ∙ c.if-not-are_all_in.false) (sym c.are_all_in-2.ensures
    ∙ c.if-not-are_all_in-2.false) in
    c.outside.ensures.columns column
    (omega (arith, wide, c.narrowed_by.ensures.width, c.narrowed_by-still.ensures.width, c.whole.ensures.width))
    ∙ is_ended (has c.narrowed_by-still.result column) (has c.narrowed_by.result column)
    (has c.whole.result column) left right column
    (c.whole.ensures.columns column wide) (c.narrowed_by-still.ensures.columns column)
    (c.narrowed_by.ensures.columns column)
    ∙ ap (λ b. b && edge_among (left ++ right) column) (sym all)
