use Rattle.std.proofs.Common.{◌++◌, map, ap, ◌∙◌}
use Rattle.kind_orders.specs.JoinedLines.{arc_to}
use Rattle.kind_orders.proofs.TestLines.{lines_are_pieces, lines_rise}
use Rattle.kind_orders.proofs.tests.joined.Goals as goal

pub joined_lines-requires-clause-pieces : goal.joined_lines-requires-clause-pieces
joined_lines-requires-clause-pieces c =
    let some = c.args.some.now in
    let others = c.args.others.now in
    lines_are_pieces some others c.deref.result.now
    (c.deref.ensures.value ∙ c.in_ok-push_arcs-2.ensures
    ∙ ap (λ xs. xs ++ map (arc_to 5) others)
    (c.in_ok-push_arcs.ensures ∙ ap (λ xs. xs ++ map (arc_to 3) some) c.new-lines.ensures.items)) c.requires

pub joined_lines-requires-clause-sorted : goal.joined_lines-requires-clause-sorted
joined_lines-requires-clause-sorted c =
    let some = c.args.some.now in
    let others = c.args.others.now in
    lines_rise some others c.deref.result.now
    (c.deref.ensures.value ∙ c.in_ok-push_arcs-2.ensures
    ∙ ap (λ xs. xs ++ map (arc_to 5) others)
    (c.in_ok-push_arcs.ensures ∙ ap (λ xs. xs ++ map (arc_to 3) some) c.new-lines.ensures.items))
