use Rattle.std.proofs.Common.{◌<◌, ◌≤◌, length, ap, arith}
use Rattle.tableau.proofs.LengthLemmas.{bytes_all, bytes_of, length_text}
use Rattle.tableau.proofs.lengths.text_length.Goals as goal

pub returns-else-size-eq0 : goal.returns-else-size-eq0
returns-else-size-eq0 c =
    let all : length c.args.timeline.now ≤ c.loop-column.column-index = omega
    (arith, ap length c.columns-column-items.ensures) in
    let none = bytes_all c.args.timeline.now c.loop-column.column-index all in
    let some : 0 < bytes_of c.args.timeline.now = omega (arith, none, c.loop-column.invariant.counted) in
    omega (arith, none, c.loop-column.invariant.counted, length_text c.args.timeline.now some)
