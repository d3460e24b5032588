use Rattle.std.proofs.{Common.{◌≡◌, length, not, sym, ap, ◌∙◌}, lemmas.Bool.{eqb-true, eq-eqb, not-false}}
use Rattle.ranked_gen.proofs.KindsLeft.{same_stretches}
use Rattle.ranked_gen.proofs.staged.has_new_phase.Goals as goal

pub returns : goal.returns
returns c = (
  λ e. same_stretches c.args.frame.now c.args.stage c.requires.some
      (sym c.stretch_count.ensures.value
      ∙ eqb-true c.stretch_count.result c.stretch_count-2.result (not-false _ e)
      ∙ c.stretch_count-2.ensures.value),
  λ same. ap not (eq-eqb c.stretch_count.result c.stretch_count-2.result
      (c.stretch_count.ensures.value ∙ ap length same ∙ sym c.stretch_count-2.ensures.value)),
)
