use Rattle.std.proofs.Common.{◌≡◌, not, length, refl, ap, sym, ◌∙◌, subst, arith}
use Rattle.stage_tables.proofs.PiecesParted.{AreFiner, no_parts, next_part, all_parts}
use Rattle.stage_tables.proofs.exploring.Exploring.push_parts.Goals as goal

pub loop-part-init : goal.loop-part-init
loop-part-init c = record {
  inside = omega arith;
  so_far = no_parts c.args.self.now c.args.constraint c.args.kind.now _ _ _;
}

pub loop-part-preserved : goal.loop-part-preserved
loop-part-preserved c =
    let made = c.in_ok-finer.ensures in
    let finer = subst
    (AreFiner c.args.self.now c.args.constraint c.args.kind.now c.args.piece.now) (sym c.deref-part-items.ensures.value)
    (record { apart = made.pieces; columns = made.columns; each = made.each }) in
    record {
      inside = omega (arith, c.loop-part-test.true);
      so_far = rw (c.push-pushed.ensures.items, c.is_err.ensures.negation ∙ ap not c.if-is_err.false)
          (next_part _ _ _ _ c.requires.piece _ finer _ _ _ _ _ c.loop-part.invariant.so_far c.loop-part-test.true
          c.part-item.is refl refl refl);
    }

pub returns : goal.returns
returns c =
    let made = c.in_ok-finer.ensures in
    let finer = subst
    (AreFiner c.args.self.now c.args.constraint c.args.kind.now c.args.piece.now) (sym c.deref-part-items.ensures.value)
    (record { apart = made.pieces; columns = made.columns; each = made.each }) in
    let inv = c.loop-part.invariant in
    let last : c.loop-part.part-index ≡ length c.deref-part-items.result.now = omega
    (arith, inv.inside, c.loop-part-test.false) in
    all_parts _ _ _ _ c.requires.piece _ finer _ _ _ inv.so_far last
