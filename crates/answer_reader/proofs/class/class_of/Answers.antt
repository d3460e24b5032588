use Rattle.std.proofs.Common.{◌≡◌, ◌<◌, Some, None, take, length, option_map, ap, sym, ◌∙◌, subst, arith}
use Rattle.std.proofs.{Common.length-set, lemmas.List.take_more_set, lemmas.List.Elements.All-push}
use Rattle.tier_core.specs.Sets.{AreSets}
use Rattle.answer_reader.specs.Decoding.{decode_set, front_seen}
use Rattle.answer_reader.proofs.ClassLoop.{tier_read, tier_missing}
use Rattle.answer_reader.proofs.class.class_of.Goals as goal

pub returns-in_default : goal.returns-in_default
returns-in_default c =
    let d : decode_set c.loop-tier.rest.now ≡ None = sym c.set_and_rest.ensures.front
    ∙ ap (option_map front_seen) c.in_default.is in
    tier_missing c.args.width c.loop-tier.tier _ c.loop-tier.rest.now _ (omega arith) d c.loop-tier.invariant.rest

pub loop-tier-preserved : goal.loop-tier-preserved
loop-tier-preserved c =
    let d : decode_set c.loop-tier.rest.now
    ≡ Some (c.in-Some.set, c.in-Some.behind.now) = sym c.set_and_rest.ensures.front
    ∙ ap (option_map front_seen) c.in-Some.is in
    let l : c.loop-tier.tier < length c.loop-tier.sets = omega arith in
    let below : c.in-Some.set < 32 = rw c.in-Some.is at c.set_and_rest.ensures.set in
    record {
      size = length-set c.loop-tier.sets c.loop-tier.tier c.in-Some.set ∙ c.loop-tier.invariant.size;
      sets = subst AreSets (sym (take_more_set c.loop-tier.sets c.loop-tier.tier c.in-Some.set l))
          (All-push (λ s. s < 32) (take c.loop-tier.tier c.loop-tier.sets) c.in-Some.set c.loop-tier.invariant.sets
          below);
      rest = tier_read c.args.width c.loop-tier.tier c.loop-tier.sets c.loop-tier.rest.now c.in-Some.behind.now
          c.in-Some.set _ (omega arith) l d c.loop-tier.invariant.rest;
    }
