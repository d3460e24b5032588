use Rattle.std.proofs.Common.{refl}
use Rattle.arc_table.specs.States.{states_of}
use Rattle.kind_orders.proofs.ArcOrder.{targets_within, pieces_at, line_made}
use Rattle.kind_orders.proofs.lines.state_line.Goals as goal

pub arc_lines-requires-clause-targets : goal.arc_lines-requires-clause-targets
arc_lines-requires-clause-targets c = rw c.arcs.ensures
    (targets_within
    (states_of c.args.kept.now) c.args.nodes.now c.args.state c.args.kept.now.targets c.requires.count)

pub arc_lines-requires-clause-pieces : goal.arc_lines-requires-clause-pieces
arc_lines-requires-clause-pieces c =
    let table = c.args.kept.now in
    rw c.arcs.ensures
    (pieces_at (states_of table) c.args.nodes.now c.args.state table.disjoint table.filled table.one_width)

pub returns : goal.returns
returns c =
    line_made
    (states_of c.args.kept.now) c.args.nodes.now c.args.state c.args.kept.now.disjoint _
    refl c.accepting.ensures
    (rw c.arcs.ensures at c.in_ok-arcs.ensures.joined) c.in_ok-arcs.ensures.sorted
