use Rattle.std.proofs.{Common.{arith, refl}, lemmas.List.take_all}
use Rattle.cert_check.proofs.LeastColumns.{least_more}
use Rattle.cert_check.proofs.least.least_of.Goals as goal

pub loop-class-init : goal.loop-class-init
loop-class-init c = record { within = omega arith; least = λ column. refl }

pub loop-class-preserved : goal.loop-class-preserved
loop-class-preserved c =
    let class = c.class-item.result in
    record {
      within = omega (arith, c.loop-class-test.true);
      least = least_more _ _ _ c.loop-class-test.true c.class-item.is _ (c.least_column.ensures.held
          (rw c.class-item.is (c.requires c.loop-class.class-index class c.loop-class-test.true)))
          c.least_column.ensures.least _ _ c.loop-class.invariant.least c.lesser_of.ensures;
    }

pub returns : goal.returns
returns c = rw (take_all c.loop-class.class-index c.args.classes.now (omega (arith, c.loop-class-test.false))) at
    c.loop-class.invariant.least
