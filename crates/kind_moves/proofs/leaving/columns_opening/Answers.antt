use Rattle.std.proofs.Common.{◌<◌, length, sym, ◌∙◌, arith}
use Rattle.tier_core.specs.Classes.{sets_of}
use Rattle.kind_moves.proofs.LeavingSteps.{left_none, left_more, left_same, left_all, tier_within}
use Rattle.kind_moves.proofs.leaving.columns_opening.Goals.{then-has_bit, else-has_bit}
use Rattle.kind_moves.proofs.leaving.columns_opening.Goals as goal

pub loop-tier-init : goal.loop-tier-init
loop-tier-init c = left_none c.args.class.now c.args.tiers c.args.opened

pub restrict-rest-requires : goal.restrict-rest-requires
restrict-rest-requires c =
    let below : c.loop-tier.tier < 12 = c.loop-tier-test.true in
    let inside = tier_within c.args.tiers (length (sets_of c.args.class.now)) c.loop-tier.tier c.requires below
    (sym c.has_bit.ensures ∙ c.if-has_bit.true) in
    omega (arith, inside, c.loop-tier.invariant.width)

pub loop-tier-preserved : goal.loop-tier-preserved
loop-tier-preserved c = elim c.if-has_bit.branch [
  | then-has_bit w ↦ rw (w.rest-is, w.next-is) (left_more _ _ w.restrict-rest.result _ _ _ _ _ _
      c.loop-tier.invariant (sym c.has_bit.ensures ∙ w.if-has_bit.true) w.has_bit-then-has_bit.ensures
      w.restrict-rest.ensures.width w.restrict-rest.ensures.columns w.leaving_set.ensures.symbols)
  | else-has_bit w ↦ rw (w.rest-is, w.next-is) (left_same _ _ _ _ _ _ c.loop-tier.invariant (sym c.has_bit.ensures
      ∙ w.if-has_bit.false))
]

pub returns-clause-columns : goal.returns-clause-columns
returns-clause-columns c = left_all _ _ _ _ _ _ c.loop-tier.invariant (omega arith)
