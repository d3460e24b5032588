use Rattle.std.proofs.Common.{◌≡◌, ℕ, List, [], length, subst, sym, arith}
use Rattle.tier_core.specs.{declared.class.Class.Class, Classes.sets_of}
use Rattle.symbol_class.specs.Held.{AddsClasses}
use Rattle.symbol_class.proofs.SplitSteps.{times_in, times_out, split_more, split_all}
use Rattle.symbol_class.proofs.parting.parted_by_all.Goals as goal

pub loop-test-preserved : goal.loop-test-preserved
loop-test-preserved c =
    let class = c.args.class.now in
    let test = c.test-item.result in
    let width = length (sets_of class) in
    let wide : length (sets_of test) ≡ width = subst (λ (x : Class). length (sets_of x) ≡ width) (sym c.test-item.is)
    (c.requires c.loop-test.test-index test c.loop-test-test.true) in
    record {
      within = omega (arith, c.loop-test-test.true);
      so_far = split_more width class c.args.tests.now c.loop-test.test-index c.loop-test.inside.items
          c.loop-test.outside.items test c.divide.new.inside.items c.in_ok-outside.outside.items
          c.loop-test.invariant.so_far c.loop-test-test.true c.test-item.is
          (subst (λ (xs : List Class). AddsClasses width c.loop-test.inside.items c.divide.new.inside.items
          (times_in test xs)) c.deref.ensures.value
          (subst (λ (n : ℕ). AddsClasses n c.loop-test.inside.items c.divide.new.inside.items
          (times_in test c.deref.result.now)) wide c.in_ok-outside.ensures.inside))
          (subst (λ (xs : List Class). AddsClasses width [] c.in_ok-outside.outside.items
          (times_out test xs)) c.deref.ensures.value
          (subst (λ (n : ℕ). AddsClasses n [] c.in_ok-outside.outside.items
          (times_out test c.deref.result.now)) wide c.in_ok-outside.ensures.outside));
    }

pub returns : goal.returns
returns c = split_all (length (sets_of c.args.class.now)) c.args.class.now c.args.tests.now c.loop-test.test-index
    c.loop-test.inside.items c.loop-test.outside.items c.loop-test-test.false c.loop-test.invariant.so_far
