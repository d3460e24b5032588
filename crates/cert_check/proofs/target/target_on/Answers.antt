use Rattle.std.proofs.{Common.{◌≡◌, get_or, refl, sym, ap, ◌∙◌, arith, ⊎_elim, true≢false}, lemmas.Bool.cases_lt}
use Rattle.std.proofs.lemmas.List.{get_or_default}
use Rattle.tier_core.specs.Classes.{has}
use Rattle.answer_text.specs.declared.automaton.ArcLine.{ArcLine}
use Rattle.cert_check.proofs.target.target_on.Goals as goal

pub loop-arc-init : goal.loop-arc-init
loop-arc-init c = record { within = omega arith; none = λ i arc l. absurd (omega (arith, l)) }

pub returns-then-has : goal.returns-then-has
returns-then-has c = (
  c.arc-item.result,
  (
    (c.loop-arc.arc-index, c.loop-arc-test.true, sym c.arc-item.is),
    sym c.has.ensures ∙ c.if-has.true,
    refl,
  ),
)

pub loop-arc-preserved : goal.loop-arc-preserved
loop-arc-preserved c = record {
  within = omega (arith, c.loop-arc-test.true);
  none = λ i arc l. ⊎_elim
      (λ below. c.loop-arc.invariant.none i arc below)
      (λ above. let is : i ≡ c.loop-arc.arc-index = omega (arith, l, above) in
      ap (λ n. has (get_or c.args.arcs.now n arc).class c.args.column.now) is ∙ ap
      (λ (x : ArcLine). has x.class c.args.column.now) (get_or_default _ _ _ _ c.loop-arc-test.true ∙ sym c.arc-item.is)
      ∙ sym c.has.ensures ∙ c.if-has.false) (cases_lt i c.loop-arc.arc-index);
}

pub returns : goal.returns
returns c = λ arc h holds. true≢false (sym holds ∙ ap (λ (x : ArcLine). has x.class c.args.column.now) (sym h.2)
    ∙ c.loop-arc.invariant.none h.0 arc (omega (arith, h.1, c.loop-arc-test.false)))
