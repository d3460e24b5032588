use Rattle.std.proofs.Common.{List, length, All, AllPairs, IsTrue, sym, subst, ◌<◌, rules}
use Rattle.std.proofs.{lemmas.Cmp.nat_list_cmp_total, lemmas.List.Sorted.{All-permutation, ranks_by}}
use Rattle.std.proofs.lemmas.Result.{IfOk-weaker}
use Rattle.std.specs.List.Sorted.{IsSortedByKey}
use Rattle.tier_core.specs.{declared.class.Class.Class, Classes.{sets_of, AreDisjoint}, Filled.is_filled}
use Rattle.symbol_class.specs.Joined.{sets_beside, beside_cmp, JoinsAlong}
use Rattle.symbol_class.proofs.{JoinedClasses.{joins_permuted, apart_permuted}, Pairs.sorted_by_closure}
use Rattle.symbol_class.proofs.joining.joined_along.Goals as goal

pub joined_neighbours-requires-clause-wide : goal.joined_neighbours-requires-clause-wide
joined_neighbours-requires-clause-wide c =
    subst (All (λ class. c.args.tier < length (sets_of class))) (sym c.deref.ensures.value)
    (All-permutation (λ class. c.args.tier < length
    (sets_of class)) c.args.classes.items c.sort_unstable_by.new.self.items c.sort_unstable_by.ensures.permutation
    c.requires.wide)

pub joined_neighbours-requires-clause-filled : goal.joined_neighbours-requires-clause-filled
joined_neighbours-requires-clause-filled c =
    subst (All (λ class. IsTrue (is_filled class))) (sym c.deref.ensures.value)
    (All-permutation
    (λ class. IsTrue
    (is_filled class)) c.args.classes.items c.sort_unstable_by.new.self.items
    c.sort_unstable_by.ensures.permutation c.requires.filled)

pub joined_neighbours-requires-clause-apart : goal.joined_neighbours-requires-clause-apart
joined_neighbours-requires-clause-apart c =
    subst (AllPairs AreDisjoint) (sym c.deref.ensures.value)
    (apart_permuted c.args.classes.items c.sort_unstable_by.new.self.items c.sort_unstable_by.ensures.permutation
    c.requires.apart)

pub joined_neighbours-requires-clause-sorted : goal.joined_neighbours-requires-clause-sorted
joined_neighbours-requires-clause-sorted c =
    let tier = c.args.tier in
    subst (IsSortedByKey sets_of (beside_cmp tier)) (sym c.deref.ensures.value)
    (sorted_by_closure (λ (a b : Class). beside_cmp tier (sets_of a) (sets_of b)) c.sort_unstable_by.new.self.items
    (ranks_by nat_list_cmp_total (λ (class : Class). sets_beside tier
    (sets_of class))) c.sort_unstable_by.ensures.sorted (λ a r f k. search rules))

pub returns : goal.returns
returns c =
    let tier = c.args.tier in
    let sorted = c.sort_unstable_by.new.self.items in
    IfOk-weaker c.joined_neighbours.result (λ joined. JoinsAlong tier c.deref.result.now joined.items)
    (λ joined. JoinsAlong tier c.args.classes.items joined.items)
    (λ joined joins. joins_permuted tier c.args.classes.items sorted joined.items
    c.sort_unstable_by.ensures.permutation
    (subst (λ (old : List Class). JoinsAlong tier old joined.items) c.deref.ensures.value joins))
    c.joined_neighbours.ensures
