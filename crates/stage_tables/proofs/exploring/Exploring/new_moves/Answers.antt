use Rattle.std.proofs.Common.{◌≡◌, length, arith}
use Rattle.stage_tables.proofs.Taking.{none_taken, one_taken, all_taken}
use Rattle.stage_tables.proofs.exploring.Exploring.new_moves.Goals as goal

pub loop-arc-init : goal.loop-arc-init
loop-arc-init c = record {
  inside = omega arith;
  so_far = none_taken _ _ _ _ _ c.new-moves.ensures.items c.requires.found;
}

pub take-requires-clause-found : goal.take-requires-clause-found
take-requires-clause-found c = c.loop-arc.invariant.so_far.found

pub take-requires-clause-over : goal.take-requires-clause-over
take-requires-clause-over c = (
  c.requires.over.0,
  c.loop-arc.invariant.so_far.stays c.requires.over.0 c.args.kind.now c.args.state c.requires.over.1,
)

pub loop-arc-preserved : goal.loop-arc-preserved
loop-arc-preserved c =
    let inv = c.loop-arc.invariant in
    let done = c.in_ok-take.ensures in
    record {
      inside = omega (arith, c.loop-arc-test.true);
      so_far = one_taken c.args.self.now c.args.listed.now c.loop-arc.listed c.take.new.listed c.args.kind.now
          c.arcs-arc-items.result.now c.loop-arc.moves.items c.take.new.moves.items c.loop-arc.arc-index
          c.arc-item.result inv.so_far c.loop-arc-test.true c.arc-item.is done.found done.stays done.adds;
    }

pub returns-clause-found : goal.returns-clause-found
returns-clause-found c = c.loop-arc.invariant.so_far.found

pub returns-clause-stays : goal.returns-clause-stays
returns-clause-stays c = c.loop-arc.invariant.so_far.stays

pub returns-clause-targets : goal.returns-clause-targets
returns-clause-targets c = c.loop-arc.invariant.so_far.targets

pub returns-clause-taken : goal.returns-clause-taken
returns-clause-taken c =
    let inv = c.loop-arc.invariant in
    let last : c.loop-arc.arc-index ≡ length c.arcs-arc-items.result.now = omega
    (arith, inv.inside, c.loop-arc-test.false) in
    all_taken _ _ _ _ _ _ _ _ inv.so_far last c.arcs-arc-items.ensures
