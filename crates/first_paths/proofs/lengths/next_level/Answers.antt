use Rattle.std.proofs.Common.{[], ℕ, List, get_or, refl, subst, arith}
use Rattle.std.proofs.lemmas.List.{take_all, Elements.Contains-get_or}
use Rattle.weight_law.specs.declared.unit_weight.UnitWeight.{UnitWeight}
use Rattle.arc_table.specs.{declared.incoming_move.IncomingMove.IncomingMove, Incoming.moves_into}
use Rattle.first_paths.specs.Counted.{IsSource, IsBefore, Reaches}
use Rattle.first_paths.proofs.Reaching.{reaches_none, reaches_more}
use Rattle.first_paths.proofs.lengths.next_level.Goals as goal

pub loop-state-init : goal.loop-state-init
loop-state-init c = record {
  inside = omega arith;
  reached = rw c.new-next.ensures.items (reaches_none (IsBefore c.args.incoming.now [])
      (λ q from. omega (arith, from.1.1)) c.args.n c.args.left.now.items []);
}

pub reach-requires : goal.reach-requires
reach-requires c =
    let level = c.args.level.now in
    let t = get_or level c.loop-state.state-index 0 in
    let into = moves_into c.args.incoming.now t in
    rw c.moves_to.ensures (λ k d l.
    (let move = get_or into k d in
    let own = c.requires.sources move.source (
      t,
      Contains-get_or level c.loop-state.state-index 0 c.loop-state-test.true,
      (move, Contains-get_or into k d l, refl),
    ) in
    omega (arith, own, c.loop-state.invariant.reached.same)))

pub loop-state-preserved : goal.loop-state-preserved
loop-state-preserved c =
    let R : List (IncomingMove UnitWeight)
    → Type 0 = λ moves. Reaches
    (IsSource moves) c.args.n c.loop-state.left.items c.reach.new.left.items c.loop-state.next.items
    c.reach.new.next.items in
    record {
      inside = omega (arith, c.loop-state-test.true);
      reached = reaches_more (λ t. IsSource (moves_into c.args.incoming.now t)) c.args.level.now
          c.loop-state.state-index 0 _ c.loop-state-test.true refl c.args.n _ _ _ _ _ _ c.loop-state.invariant.reached
          (subst R c.moves_to.ensures c.in_ok-reach.ensures);
    }

pub returns : goal.returns
returns c =
    let P : List ℕ → Type 0 = λ level. Reaches (IsBefore c.args.incoming.now level) c.args.n c.args.left.now.items
    c.loop-state.left.items [] c.loop-state.next.items in
    subst P (take_all c.loop-state.state-index c.args.level.now c.loop-state-test.false)
    c.loop-state.invariant.reached
