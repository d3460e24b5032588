use Rattle.tier_core.proofs.Differing.{differ_from_pairs, pairs_from_differ}
use Rattle.kind_laws.proofs.DirectWays.{find, way_short}
use Rattle.kind_laws.proofs.ways.shortest_ways_pass_no_kind_twice.Goals as goal

pub returns-clause-direct : goal.returns-clause-direct
returns-clause-direct c problem r s stage fewer p q o =
    let w = find problem r s stage fewer q p o in
    (w.way, (w.short, record { optimal = w.optimal; once = pairs_from_differ _ w.once }))

pub returns-clause-short : goal.returns-clause-short
returns-clause-short c problem r s stage p way direct ks has =
    way_short problem r s stage p way direct.optimal (differ_from_pairs _ direct.once) ks has
