use Rattle.std.proofs.{Common.{◌≡◌, ◌++◌, ℕ, length, drop, take, subst, arith}, lemmas.List.take_at}
use Rattle.distances.specs.Rounds.{IsCovered}
use Rattle.distances.proofs.Ends.{least-closed, closed-covered}
use Rattle.distances.proofs.rounds.fixed_point.Goals as goal

pub returns-then-not-round : goal.returns-then-not-round
returns-then-not-round g c =
    let laws = g.met.W.Weight.laws in
    let states = c.args.table.now.states.items in
    let new = c.round.new.least in
    let done = c.round.ensures in
    let whole : take c.loop-rounds.least.len (new ++ drop (length new) c.loop-rounds.least.items) ≡ new =
    take_at new (drop (length new) c.loop-rounds.least.items) c.loop-rounds.least.len
    (omega (arith, done.each_state, c.loop-rounds.invariant.each_state, c.loop-rounds.least.ok)) in
    let before : IsCovered states c.deref_mut.result.now c.loop-rounds._rounds = rw c.deref_mut.ensures.value
    c.loop-rounds.invariant.covered in
    rw whole (least-closed laws states c.args.table.now.targets new done.each_state done.witnessed
    (λ s arcs inside run short. done.covered c.loop-rounds._rounds before s arcs inside run (omega arith))
    (done.closed c.if-not-round.true))

pub loop-rounds-preserved : goal.loop-rounds-preserved
loop-rounds-preserved g c =
    let new = c.round.new.least in
    let done = c.round.ensures in
    let whole : take c.loop-rounds.least.len (new ++ drop (length new) c.loop-rounds.least.items) ≡ new =
    take_at new (drop (length new) c.loop-rounds.least.items) c.loop-rounds.least.len
    (omega (arith, done.each_state, c.loop-rounds.invariant.each_state, c.loop-rounds.least.ok)) in
    let before : IsCovered c.args.table.now.states.items c.deref_mut.result.now c.loop-rounds._rounds = rw
    c.deref_mut.ensures.value c.loop-rounds.invariant.covered in
    record {
      each_state = rw whole done.each_state;
      witnessed = rw whole done.witnessed;
      covered = rw whole (done.covered c.loop-rounds._rounds before);
    }

pub returns : goal.returns
returns g c =
    let laws = g.met.W.Weight.laws in
    let states = c.args.table.now.states.items in
    let exist = c.args.table.now.targets in
    let inv = c.loop-rounds.invariant in
    let last : c.loop-rounds._rounds ≡ length states = omega (arith, c.loop-rounds-test.false) in
    let P : ℕ → Type 0 = λ n. IsCovered states c.loop-rounds.least.items n in
    least-closed laws states exist c.loop-rounds.least.items inv.each_state inv.witnessed
    (λ s arcs inside run short. inv.covered s arcs inside run (omega arith))
    (closed-covered laws states exist c.loop-rounds.least.items inv.witnessed (subst P last inv.covered))
