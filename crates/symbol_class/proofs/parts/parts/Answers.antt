use Rattle.std.proofs.Common.{◌≡◌, ℕ, length, subst, sym, arith}
use Rattle.tier_core.specs.{declared.class.Class.Class, Classes.{sets_of, has}}
use Rattle.symbol_class.specs.{Held.once_if, Parts.{differs, AddsAlike}}
use Rattle.symbol_class.proofs.PartSteps.{ArePartedBelow, parted_none, parted_next, parted_all}
use Rattle.symbol_class.proofs.parts.parts.Goals as goal

pub loop-class-init : goal.loop-class-init
loop-class-init c =
    subst (ArePartedBelow (length (sets_of c.args.test.now.within)) (differs c.args.test.now) c.args.classes.now 0)
    (sym c.new-parts.ensures.items)
    (parted_none (length (sets_of c.args.test.now.within)) (differs c.args.test.now) c.args.classes.now)

pub loop-class-preserved : goal.loop-class-preserved
loop-class-preserved c =
    let test = c.args.test.now in
    let class = c.class-item.result in
    let width = length (sets_of test.within) in
    let wide : length (sets_of class) ≡ width = subst (λ (x : Class). length (sets_of x) ≡ width)
    (sym c.class-item.is) (c.requires.one_width c.loop-class.class-index class c.loop-class-test.true) in
    parted_next width
    (differs test) c.args.classes.now c.loop-class.class-index c.loop-class.parts.items
    c.push_parts.new.parts.items class
    c.loop-class.invariant c.loop-class-test.true c.class-item.is
    (subst (λ (n : ℕ). AddsAlike n c.loop-class.parts.items c.push_parts.new.parts.items
    (λ column. once_if (has class column)) (differs test)) wide c.in_ok-push_parts.ensures)

pub returns : goal.returns
returns c =
    parted_all (length (sets_of c.args.test.now.within))
    (differs c.args.test.now) c.args.classes.now c.loop-class.class-index c.loop-class.parts.items c.requires
    c.loop-class.invariant (omega (arith, c.loop-class-test.false))
