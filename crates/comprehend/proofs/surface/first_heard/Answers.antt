use Rattle.std.proofs.Common.{◌≡◌, List, length, sym, subst}
use Rattle.tier_core.specs.{declared.class.Class.Class, declared.sym.Sym.Sym, declared.tier.TierKind.TierKind}
use Rattle.comprehend.specs.Tests.{AreTestsOf}
use Rattle.comprehend.proofs.Heard.{searchable, apart, apart_tests, heard_first}
use Rattle.comprehend.proofs.surface.first_heard.Goals as goal

-- the tests of the same kinds, in the same list
same_tests : {kinds own : List TierKind} {tests list : List Class} (surface : List (List Sym)) → own ≡ kinds
    → list ≡ tests → AreTestsOf own surface tests → AreTestsOf kinds surface list
same_tests {kinds} {tests = tests} surface same listed are =
    subst (λ ts. AreTestsOf kinds surface ts) (sym listed) (subst (λ ks. AreTestsOf ks surface tests) same are)

pub first_along-requires : goal.first_along-requires
first_along-requires c =
    let kinds = c.args.tiers.now.kinds.items in
    let states = c.args.states.now in
    let surface = c.args.surface.now in
    let tests = c.deref-in-Ok.result.now in
    let are = same_tests surface c.deref.ensures.value c.deref-in-Ok.ensures.value c.in-Ok.ensures in
    let r = c.requires in
    record {
      searchable = (length kinds, searchable kinds states surface tests r.readable r.few r.surface r.short are);
      once = r.readable.distinct;
      apart = apart kinds states surface tests r.readable r.few r.surface r.short are;
      tests_apart = apart_tests kinds states surface tests r.readable r.few r.surface r.short are;
    }

pub returns-in-Ok : goal.returns-in-Ok
returns-in-Ok c =
    let are = same_tests c.args.surface.now c.deref.ensures.value c.deref-in-Ok.ensures.value c.in-Ok.ensures in
    let r = c.requires in
    heard_first c.args.tiers.now.kinds.items c.args.states.now c.args.surface.now c.deref-in-Ok.result.now r.readable
    r.few r.surface r.short are c.first_along.result c.first_along.ensures
