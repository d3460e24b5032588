use Rattle.std.proofs.Common.{◌≡◌, ℕ, None, length, get_or, refl, subst, ◌∙◌, arith}
use Rattle.prune_best.specs.Kept.{AreTightMoves, IsTightArc}
use Rattle.prune_best.proofs.Keeping.{skip, keep, keep-names, some_added}
use Rattle.prune_best.proofs.moves.tight_moves.Goals as goal

pub loop-arc-preserved-then-not-is_tight_arc : goal.loop-arc-preserved-then-not-is_tight_arc
loop-arc-preserved-then-not-is_tight_arc g c =
    let inv = c.loop-arc.invariant in
    record {
      inside = omega (arith, c.loop-arc-test.true);
      same = inv.same;
      numbered = inv.numbered;
      kept = skip c.args.least.now c.args.here c.args.arcs.now c.loop-arc.names.items c.loop-arc.moves.items
          c.loop-arc.arc-index c.arc-item.result c.loop-arc-test.true c.arc-item.is
          (λ kept. (let yes = c.is_tight_arc.ensures.1 kept in let no = c.if-not-is_tight_arc.true in cc)) inv.kept;
      named = inv.named;
    }

pub loop-arc-preserved : goal.loop-arc-preserved
loop-arc-preserved g c =
    let inv = c.loop-arc.invariant in
    let least = c.args.least.now in
    let grows = c.in_ok-target.ensures.grows in
    let arc = c.arc-item.result in
    let kept : IsTightArc least c.args.here
    arc = (let no = c.if-not-is_tight_arc.false in c.is_tight_arc.ensures.0 (cc)) in
    record {
      inside = omega (arith, c.loop-arc-test.true);
      same = c.in_ok-target.ensures.same ∙ inv.same;
      numbered = c.in_ok-target.ensures.numbered;
      kept = rw c.in_ok-push.ensures.items
          (keep least c.args.here c.args.arcs.now c.loop-arc.names.items c.number_state.new.names.items
          c.loop-arc.moves.items c.loop-arc.arc-index arc _ c.loop-arc-test.true c.arc-item.is grows.stays kept
          (refl, grows.named) inv.kept);
      named = rw c.in_ok-push.ensures.items
          (keep-names least c.args.names.now.items c.loop-arc.names.items c.number_state.new.names.items
          c.loop-arc.moves.items _ c.in_ok-target.target arc.target inv.named grows refl
          (some_added g.W.Weight.meaning arc.weight c.args.here (get_or least arc.target None) kept));
    }

pub returns-clause-moves : goal.returns-clause-moves
returns-clause-moves g c =
    let last : c.loop-arc.arc-index ≡ length c.args.arcs.now = omega (arith, c.loop-arc-test.false) in
    let P : ℕ
    → Type 0 = λ n. AreTightMoves c.args.least.now c.loop-arc.names.items c.args.here c.args.arcs.now
    c.loop-arc.moves.items n in
    subst P last c.loop-arc.invariant.kept
