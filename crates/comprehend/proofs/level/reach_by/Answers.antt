use Rattle.std.proofs.Common.{◌≡◌, ◌<◌, ◌-◌, IsTrue, arith}
use Rattle.comprehend.specs.{Searches.Reaches, Entering.ComesBy}
use Rattle.comprehend.proofs.{Looks.{first_place, two_places}, Results.if_ok_then}
use Rattle.comprehend.proofs.level.reach_by.Goals as goal

pub returns-then-place-eq0 : goal.returns-then-place-eq0
returns-then-place-eq0 c =
    let entry = c.args.entry.now in
    first_place c.args.tests.now entry.source c.args.place entry.class c.args.n c.if-place-eq0.true
    c.index-tests-0.result (omega (
      arith,
      c.requires.place,
    )) c.index-tests-0.is c.meets-stays.result c.cell.result c.cell.ensures c.meets-stays.ensures
    c.args.left.now.items c.look.new.left.items c.args.next.now.items c.look.new.next.items c.in_ok-look.ensures

pub returns : goal.returns
returns c =
    let entry = c.args.entry.now in
    let some : 0 < c.args.place = omega (arith, c.if-place-eq0.false) in
    if_ok_then (λ _. Reaches (λ v. IsTrue c.meets-goes_on.result ×
    (v ≡ c.cell-2.result)) c.args.n c.look.new.left.items c.look-2.new.left.items c.look.new.next.items
    c.look-2.new.next.items)
    (λ _. Reaches
    (ComesBy c.args.tests.now entry.source entry.class c.args.place) c.args.n c.args.left.now.items
    c.look-2.new.left.items c.args.next.now.items c.look-2.new.next.items)
    (λ _ second. two_places c.args.tests.now entry.source c.args.place entry.class c.args.n (c.args.place - 1)
    (omega (
      arith,
      some,
    )) c.requires.place c.index-tests-0.result c.index-tests-place.result c.index-tests-0.is
    c.index-tests-place.is c.meets-stays.result c.meets-goes_on.result c.cell.result c.cell-2.result
    c.cell.ensures c.cell-2.ensures c.meets-stays.ensures c.meets-goes_on.ensures
    c.args.left.now.items c.look.new.left.items c.look-2.new.left.items c.args.next.now.items
    c.look.new.next.items c.look-2.new.next.items c.in_ok-look.ensures second)
    c.look-2.result c.look-2.ensures
