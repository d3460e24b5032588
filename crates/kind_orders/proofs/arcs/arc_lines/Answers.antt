use Rattle.std.proofs.Common.{◌≤◌, AllPairs, IsSorted, List, map, sym, subst}
use Rattle.answer_text.specs.{declared.automaton.ArcLine.ArcLine, Right.arc_cmp, ArcClasses.arc_classes}
use Rattle.symbol_class.specs.Held.{width_of, ArePieces}
use Rattle.arc_table.specs.MoveClasses.{move_classes}
use Rattle.kind_orders.specs.{AutomatonLines.line_of, JoinedLines.AreJoinedFrom}
use Rattle.kind_orders.proofs.{ArcOrder.lines_are_pieces, GroupSteps.{pieces_permuted, joined_permuted}}
use Rattle.kind_orders.proofs.arcs.arc_lines.Goals as goal

pub joined_lines-requires-clause-pieces : goal.joined_lines-requires-clause-pieces
joined_lines-requires-clause-pieces c =
    let moves = c.args.moves.now in
    let lines = map (line_of c.args.nodes.now) moves in
    subst (λ (ls : List ArcLine). ArePieces (width_of (arc_classes ls)) (arc_classes ls)) (sym c.deref.ensures.value)
    (pieces_permuted (width_of (move_classes moves)) lines c.in_ok-lines.lines.items c.in_ok-lines.ensures.same
    (lines_are_pieces c.args.nodes.now moves (width_of (move_classes moves)) c.requires.pieces))

pub joined_lines-requires-clause-sorted : goal.joined_lines-requires-clause-sorted
joined_lines-requires-clause-sorted c =
    subst (AllPairs (λ (a b : ArcLine). a.target ≤ b.target)) (sym c.deref.ensures.value)
    c.in_ok-lines.ensures.sorted

pub returns-clause-joined : goal.returns-clause-joined
returns-clause-joined c =
    let lines = map (line_of c.args.nodes.now) c.args.moves.now in
    rw c.shrink_to_fit.ensures.items
    (joined_permuted lines c.in_ok-lines.lines.items c.in_ok-arcs.arcs.items c.in_ok-lines.ensures.same
    (subst (λ ls. AreJoinedFrom ls c.in_ok-arcs.arcs.items) c.deref.ensures.value c.in_ok-arcs.ensures.joined))

pub returns-clause-sorted : goal.returns-clause-sorted
returns-clause-sorted c = subst (IsSorted arc_cmp) (sym c.shrink_to_fit.ensures.items) c.in_ok-arcs.ensures.sorted
