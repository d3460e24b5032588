use Rattle.std.proofs.{Common.{◌+◌, ◌-◌, ◌/◌, ◌<◌, length, sym, ◌∙◌, arith}, lemmas.List.length-map}
use Rattle.tier_core.specs.KindShapes.{kind_in}
use Rattle.answer_text.specs.declared.stage.Node.{Node}
use Rattle.cert_check.proofs.Searches.{before_middle, behind_middle, at_middle, not_there}
use Rattle.cert_check.proofs.find.find.Goals as goal

pub loop-low-preserved-in-Less : goal.loop-low-preserved-in-Less
loop-low-preserved-in-Less c =
    let middle = c.loop-low.low + (c.loop-low.high - c.loop-low.low) / 2 in
    let inside : middle < length c.args.nodes.now = omega (arith, c.loop-low-test.true, c.loop-low.invariant.high) in
    record {
      low = omega (arith, c.loop-low-test.true);
      high = c.loop-low.invariant.high;
      below = before_middle c.args.shape.now c.args.stage _ c.args.key.now c.requires.ascending _ _ inside
          (sym c.kind_cmp.ensures ∙ c.in-Less.is);
      above = c.loop-low.invariant.above;
    }

pub loop-low-preserved : goal.loop-low-preserved
loop-low-preserved c =
    let middle = c.loop-low.low + (c.loop-low.high - c.loop-low.low) / 2 in
    let inside : middle < length c.args.nodes.now = omega (arith, c.loop-low-test.true, c.loop-low.invariant.high) in
    record {
      low = omega (arith, c.loop-low-test.true);
      high = omega (arith, inside);
      below = c.loop-low.invariant.below;
      above = behind_middle c.args.shape.now c.args.stage _ c.args.key.now c.requires.ascending _ _ inside
          (sym c.kind_cmp.ensures ∙ c.in-Greater.is);
    }

pub returns-in-Equal : goal.returns-in-Equal
returns-in-Equal c =
    let middle = c.loop-low.low + (c.loop-low.high - c.loop-low.low) / 2 in
    let inside : middle < length c.args.nodes.now = omega (arith, c.loop-low-test.true, c.loop-low.invariant.high) in
    at_middle c.args.shape.now c.args.stage _ c.args.key.now c.requires.ascending _ _ inside
    (sym c.kind_cmp.ensures ∙ c.in-Equal.is)

pub returns : goal.returns
returns c =
    not_there _ _ c.requires.ascending _ _ (omega (arith, c.loop-low-test.false)) c.loop-low.invariant.below
    (λ i h k. c.loop-low.invariant.above i h (omega (
      arith,
      k,
      length-map c.args.nodes.now
          (λ (node : Node). kind_in c.args.shape.now c.args.stage node.kind),
    )))
