use Rattle.std.proofs.Common.{length, arith}
use Rattle.arc_table.proofs.Push.{targets_each}
use Rattle.distances.proofs.{Ends.fits_each, Shortest.witnessed_from_least}
use Rattle.prune_best.proofs.moves.new_state.Goals as goal

pub tight_moves-requires-clause-targets : goal.tight_moves-requires-clause-targets
tight_moves-requires-clause-targets g c =
    rw c.arcs.ensures (targets_each c.args.table.now.states.items c.args.table.now.targets
    (length c.args.least.now) c.requires.least.each_state c.args.state)

pub tight_moves-requires-clause-sizes : goal.tight_moves-requires-clause-sizes
tight_moves-requires-clause-sizes g c =
    let laws = g.met.W.Weight.laws in
    let states = c.args.table.now.states.items in
    let exist = c.args.table.now.targets in
    rw c.arcs.ensures (fits_each laws states 4294967295 exist c.requires.sizes (omega arith) c.args.least.now
    (witnessed_from_least laws states exist c.args.least.now c.requires.least) c.args.state)
