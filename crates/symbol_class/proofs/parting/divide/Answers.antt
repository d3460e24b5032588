use Rattle.std.proofs.Common.{◌≡◌, ℕ, length, not, ◌&&◌, subst, sym, ◌∙◌, arith}
use Rattle.tier_core.specs.{declared.class.Class.Class, Classes.{sets_of, has}}
use Rattle.symbol_class.specs.Held.{once_if, AddsClasses}
use Rattle.symbol_class.proofs.SplitSteps.{parted_none, parted_more, parted_all}
use Rattle.symbol_class.proofs.parting.divide.Goals as goal

pub loop-class-preserved : goal.loop-class-preserved
loop-class-preserved c =
    let test = c.args.test.now in
    let class = c.class-item.result in
    let width = length (sets_of test) in
    let wide : length (sets_of class) ≡ width = subst (λ (x : Class). length (sets_of x) ≡ width)
    (sym c.class-item.is) (c.requires c.loop-class.class-index class c.loop-class-test.true) in
    record {
      within = omega (arith, c.loop-class-test.true);
      so_far = parted_more width test c.args.classes.now c.loop-class.class-index c.args.inside.now.items
          c.loop-class.inside.items c.loop-class.outside.items class c.meet.result c.push_filled.new.pieces.items
          c.push_minus.new.pieces.items
          c.loop-class.invariant.so_far c.loop-class-test.true c.class-item.is c.meet.ensures.columns
          (subst (λ (n : ℕ). AddsClasses n c.loop-class.inside.items c.push_filled.new.pieces.items
          (λ column. once_if (has c.meet.result column)))
          (c.meet.ensures.width ∙ wide) c.in_ok-push_filled.ensures.held)
          (subst (λ (n : ℕ). AddsClasses n c.loop-class.outside.items c.push_minus.new.pieces.items
          (λ column. once_if (has class column && not (has test column)))) wide c.in_ok-push_minus.ensures.held);
    }

pub loop-class-init : goal.loop-class-init
loop-class-init c = record {
  within = omega arith;
  so_far = parted_none (length (sets_of c.args.test.now)) c.args.test.now c.args.classes.now c.args.inside.now.items
      c.new-outside.result.items c.new-outside.ensures.items;
}

pub returns : goal.returns
returns c = parted_all (length (sets_of c.args.test.now)) c.args.test.now c.args.classes.now c.loop-class.class-index
    c.args.inside.now.items c.loop-class.inside.items c.loop-class.outside.items c.loop-class-test.false
    c.loop-class.invariant.so_far
