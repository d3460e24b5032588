use Rattle.std.proofs.{Common.{◌≡◌, ◌+◌, ◌-◌, cond, sym, ap, ◌∙◌, arith, ⊎_elim}, lemmas.Bool.cases_lt}
use Rattle.tier_core.specs.Tiers.{has_tier, is_input, kind_at}
use Rattle.cert_check.specs.Opens.{is_open_before, is_open_by}
use Rattle.cert_check.proofs.Opens.{inputs_more, inputs_in, all_inputs}
use Rattle.cert_check.proofs.open.open_tiers.Goals as goal

pub is_open-is_open-requires-clause-wide : goal.is_open-is_open-requires-clause-wide
is_open-is_open-requires-clause-wide c h k d l =
    let kinds = c.args.kinds.now in
    let more = inputs_in _ _ c.loop-tier-test.true h in
    omega (arith, more, all_inputs kinds, c.requires.wide k d l, c.loop-tier.invariant.inputs)

pub loop-tier-preserved : goal.loop-tier-preserved
loop-tier-preserved c =
    let kinds = c.args.kinds.now in
    let tier = c.loop-tier.tier in
    let open_by = is_open_by kinds c.args.form.now c.args.kind.now.place c.args.kind.now.opened in
    let step = inputs_more kinds tier c.loop-tier-test.true in
    record {
      within = c.with_bit-open.ensures.within;
      bits = λ t l. ⊎_elim
          (λ below. c.with_bit-open.ensures.others t below ∙ c.loop-tier.invariant.bits t below)
          (λ above. let is : t ≡ tier = omega arith in
          ap (has_tier c.with_bit-open.result) is ∙ c.with_bit-open.ensures.here ∙ c.is_open-is_open.ensures
          ∙ ap (λ n. cond (is_input (kind_at kinds tier)) (is_open_before c.args.form.now c.args.kind.now.place n)
          (has_tier c.args.kind.now.opened (tier - n))) c.loop-tier.invariant.inputs
          ∙ ap open_by (sym is))
          (cases_lt t tier);
      inputs = ap (λ n. c.loop-tier.inputs + n)
          (c.one_where-inputs.ensures.value ∙ ap (λ b. cond b 1 0) c.is_input.ensures)
          ∙ ap (λ n. n + cond (is_input (kind_at kinds tier)) 1 0) c.loop-tier.invariant.inputs ∙ sym step;
      few = omega (arith, c.one_where-inputs.ensures.few, c.loop-tier.invariant.few);
    }
