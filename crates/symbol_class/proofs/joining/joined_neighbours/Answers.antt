use Rattle.std.proofs.Common.{◌≡◌, ◌<◌, List, ◌∷◌, ◌++◌, map, length, All, AllPairs, IsTrue, ap, subst, sym, arith}
use Rattle.std.proofs.lemmas.List.Elements.{All-head, All-tail}
use Rattle.std.specs.List.Sorted.{IsSortedByKey}
use Rattle.tier_core.specs.{declared.class.Class.Class, Classes.{sets_of, AreDisjoint}, Filled.is_filled}
use Rattle.symbol_class.specs.Joined.{beside_cmp, JoinsAlong}
use Rattle.symbol_class.proofs.JoinSteps.{joined_from}
use Rattle.symbol_class.proofs.JoinedClasses.{wide_next, joined_more, joined_all, joins_sorted}
use Rattle.symbol_class.proofs.joining.joined_neighbours.Goals as goal

pub loop-next-init : goal.loop-next-init
loop-next-init c =
    let first = c.in-Some.parts.0.now in
    let rest = c.in-Some.parts.1.now in
    let all : All (λ class. c.args.tier < length (sets_of class)) (first ∷ rest) = subst
    (All (λ class. c.args.tier < length (sets_of class))) c.in-Some.ensures.cases.0 c.requires.wide in
    record {
      within = omega arith;
      wide = All-head (λ class. c.args.tier < length (sets_of class)) first rest all;
      so_far = ap (λ (xs : List Class). map sets_of xs
          ++ joined_from c.args.tier (sets_of first) (map sets_of rest)) c.new-joined.ensures.items;
    }

pub joined_next-requires-clause-first : goal.joined_next-requires-clause-first
joined_next-requires-clause-first c = c.loop-next.invariant.wide

pub joined_next-requires-clause-second : goal.joined_next-requires-clause-second
joined_next-requires-clause-second c =
    let first = c.in-Some.parts.0.now in
    let rest = c.in-Some.parts.1.now in
    let all : All (λ class. c.args.tier < length (sets_of class)) (first ∷ rest) = subst
    (All (λ class. c.args.tier < length (sets_of class))) c.in-Some.ensures.cases.0 c.requires.wide in
    subst (λ (class : Class). c.args.tier < length (sets_of class)) (sym c.next-item.is)
    (All-tail (λ class. c.args.tier < length
    (sets_of class)) first rest all c.loop-next.next-index c.next-item.result c.loop-next-test.true)

pub loop-next-preserved : goal.loop-next-preserved
loop-next-preserved c =
    let first = c.in-Some.parts.0.now in
    let rest = c.in-Some.parts.1.now in
    let tier = c.args.tier in
    let next = c.next-item.result in
    let all : All (λ class. tier < length (sets_of class)) (first ∷ rest) = subst
    (All (λ class. tier < length (sets_of class))) c.in-Some.ensures.cases.0 c.requires.wide in
    let wide : tier < length (sets_of next) = subst (λ (class : Class). tier < length (sets_of class))
    (sym c.next-item.is) (All-tail (λ class. tier < length
    (sets_of class)) first rest all c.loop-next.next-index next c.loop-next-test.true) in
    record {
      within = omega (arith, c.loop-next-test.true);
      wide = wide_next tier c.loop-next.joined.items c.joined_next.new.done.items c.loop-next.current next
          c.in_ok-current.current (record {
            alike = c.in_ok-current.ensures.alike;
            other = c.in_ok-current.ensures.other;
          }) c.loop-next.invariant.wide wide;
      so_far = joined_more tier c.loop-next.joined.items c.joined_next.new.done.items c.loop-next.current next
          c.in_ok-current.current rest c.loop-next.next-index (joined_from tier (sets_of first) (map sets_of rest))
          (record {
            alike = c.in_ok-current.ensures.alike;
            other = c.in_ok-current.ensures.other;
          }) c.loop-next-test.true c.next-item.is c.loop-next.invariant.so_far;
    }

pub returns : goal.returns
returns c =
    let first = c.in-Some.parts.0.now in
    let rest = c.in-Some.parts.1.now in
    let tier = c.args.tier in
    let all = joined_from tier (sets_of first) (map sets_of rest) in
    let is : c.args.sorted.now ≡ first ∷ rest = c.in-Some.ensures.cases.0 in
    let made : map sets_of c.push.new.self.items
    ≡ all = joined_all tier c.loop-next.joined.items c.push.new.self.items c.loop-next.current rest
    c.loop-next.next-index all c.in_ok-push.ensures.items
    (omega (arith, c.loop-next-test.false)) c.loop-next.invariant.so_far in
    subst (λ (old : List Class). JoinsAlong tier old c.push.new.self.items) (sym is)
    (joins_sorted tier first rest c.push.new.self.items made
    (subst (All (λ class. tier < length (sets_of class))) is c.requires.wide)
    (subst (All (λ class. IsTrue (is_filled class))) is c.requires.filled)
    (subst (AllPairs AreDisjoint) is c.requires.apart)
    (subst (IsSortedByKey sets_of (beside_cmp tier)) is c.requires.sorted))
