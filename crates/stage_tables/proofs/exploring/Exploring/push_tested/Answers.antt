use Rattle.std.proofs.Common.{◌≡◌, not, length, ap, ◌∙◌, arith}
use Rattle.stage_tables.proofs.{Taking.{none_pushed, one_pushed, all_pushed}, TestedSteps.{part_some, part_alike}}
use Rattle.stage_tables.proofs.exploring.Exploring.push_tested.Goals as goal

pub loop-part-init : goal.loop-part-init
loop-part-init c = record {
  inside = omega arith;
  so_far = none_pushed _ _ _ _ _ _ c.requires.found;
}

pub part_move-requires-clause-found : goal.part_move-requires-clause-found
part_move-requires-clause-found c = c.loop-part.invariant.so_far.found

pub part_move-requires-clause-over : goal.part_move-requires-clause-over
part_move-requires-clause-over c = (
  c.requires.over.0,
  c.loop-part.invariant.so_far.stays c.requires.over.0 c.args.kind.now c.args.state c.requires.over.1,
)

pub part_move-requires-clause-part : goal.part_move-requires-clause-part
part_move-requires-clause-part c =
    part_some c.args.self.now c.args.tests.now c.args.arc.now.class c.args.parts.now c.requires.parts
    c.loop-part.part-index c.part-item.result c.loop-part-test.true c.part-item.is

pub part_move-requires-clause-alike : goal.part_move-requires-clause-alike
part_move-requires-clause-alike c =
    part_alike c.args.self.now c.args.tests.now c.args.arc.now.class c.args.parts.now c.requires.parts
    c.loop-part.part-index c.part-item.result c.loop-part-test.true c.part-item.is

pub loop-part-preserved : goal.loop-part-preserved
loop-part-preserved c =
    let inv = c.loop-part.invariant in
    let done = c.in_ok-made.ensures in
    record {
      inside = omega (arith, c.loop-part-test.true);
      so_far = rw (c.push.ensures.items, c.is_err.ensures.negation ∙ ap not c.if-is_err.false)
          (one_pushed _ _ _ _ _ _ _ _ _ _ _ _ inv.so_far c.loop-part-test.true c.part-item.is done.found done.stays
          done.targets done.class done.taken);
    }

pub returns-clause-found : goal.returns-clause-found
returns-clause-found c = c.loop-part.invariant.so_far.found

pub returns-clause-stays : goal.returns-clause-stays
returns-clause-stays c = c.loop-part.invariant.so_far.stays

pub returns-clause-adds : goal.returns-clause-adds
returns-clause-adds c =
    let inv = c.loop-part.invariant in
    let last : c.loop-part.part-index
    ≡ length c.args.parts.now = omega (arith, inv.inside, c.loop-part-test.false) in
    all_pushed _ _ _ _ _ _ _ _ _ inv.so_far last (λ column fits. c.requires.parts.held column)
