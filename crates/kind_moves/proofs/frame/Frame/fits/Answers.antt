use Rattle.std.proofs.{Common.{rules, ap, sym, ◌∙◌, refl, arith}, lemmas.Bool.false≢true}
use Rattle.tier_core.specs.{Scan.fits, Timelines.symbol}
use Rattle.kind_moves.proofs.frame.Frame.fits.Goals as goal

pub returns-then-not-may_follow : goal.returns-then-not-may_follow
returns-then-not-may_follow c stage = (
  λ x. absurd (false≢true x),
  λ f. c.if-not-may_follow.ensures.1 (λ t l. ap (λ b. fits b (symbol c.args.column.now t)) (c.open_at.ensures stage t)
      ∙ f.symbols t (omega (arith, c.requires.width))),
)

pub returns : goal.returns
returns c stage = (
  λ x. record {
    width = c.requires.width;
    symbols = λ t l. ap (λ b. fits b (symbol c.args.column.now t)) (sym (c.open_at.ensures stage t))
        ∙ c.if-not-may_follow.ensures.0 refl t (omega (arith, c.requires.width));
    edge = search rules;
    input = c.goes_by_form.ensures.0 x;
  },
  λ f. c.goes_by_form.ensures.1 f.input,
)
