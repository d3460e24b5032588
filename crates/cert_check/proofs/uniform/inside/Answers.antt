use Rattle.std.proofs.Common.{◌≡◌, not, ◌&&◌, true, false, Bool, refl, ap, ◌∙◌, arith}
use Rattle.tier_core.proofs.{ClassSets.width_is, KnownSets.in_none}
use Rattle.cert_check.proofs.uniform.inside.Goals as goal

but_none : (a b i : Bool) → b ≡ (a && i) → i ≡ false → (a && not b) ≡ a
but_none true b i e f = ap not (e ∙ f)
but_none false b i e f = refl

pub restrict-requires : goal.restrict-requires
restrict-requires c = let class = c.args.class.now in omega (arith, width_is class, class.some)

pub returns-clause-columns : goal.returns-clause-columns
returns-clause-columns c column = but_none _ _ _ (c.restrict.ensures.columns column) (in_none _)
