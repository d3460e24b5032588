use Rattle.std.proofs.Common.{subst, sym, lit<, lit≤, arith}
use Rattle.tier_core.specs.{Shapes.NeverFalls, Tiers.tiers_of}
use Rattle.answer_reader.proofs.tests.two_tiers.Goals as goal

pub invariant_of-result : goal.invariant_of-result
unfolding tiers_of
invariant_of-result c = record {
  some = lit≤ tt;
  few = lit≤ tt;
  some_input = lit≤ tt;
  few_inputs = lit≤ tt;
  within = lit< tt;
  some_stage = omega (arith, c.in_ok-phases.ensures.len);
  few_stages = omega (arith, c.in_ok-phases.ensures.len);
  rising = rw c.in_ok-phases.ensures.items c.requires.rising;
}
