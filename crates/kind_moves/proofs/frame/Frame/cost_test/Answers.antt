use Rattle.std.proofs.Common.{◌≡◌, ◌-◌, get_or, ap, ◌∙◌, subst, arith}
use Rattle.symbol_class.specs.Parts.{differs}
use Rattle.violation.specs.Conditions.{IsOverTiers}
use Rattle.kind_moves.specs.Frames.{tiers_in, constraints_in}
use Rattle.kind_moves.proofs.{CostLaws.{over_at, move_cost}, PieceSteps.cost_is}
use Rattle.kind_moves.proofs.frame.Frame.cost_test.Goals as goal

pub cost_test-requires-clause-over : goal.cost_test-requires-clause-over
cost_test-requires-clause-over c =
    let frame = c.args.self.now in
    let item = c.index-constraints-number.result in
    let number = c.args.constraint - 1 in
    let same : c.as_slice-constraints.result.now ≡ constraints_in frame = c.as_slice-constraints.ensures.value in
    let width : (tiers_in frame).width ≡ c.len-width.result = omega (arith, c.len-width.ensures) in
    subst (λ w. IsOverTiers w item) width (over_at frame number item (omega arith)
    (c.index-constraints-number.is ∙ ap (λ xs. get_or xs number item) same))

pub returns-clause-columns : goal.returns-clause-columns
returns-clause-columns c column wide =
    let frame = c.args.self.now in
    let kind = c.args.kind.now in
    let item = c.index-constraints-number.result in
    let number = c.args.constraint - 1 in
    let test = c.cost_test.result in
    let same : c.as_slice-constraints.result.now ≡ constraints_in frame = c.as_slice-constraints.ensures.value in
    cost_is frame c.args.stage c.args.constraint kind column _ (λ none. omega (arith, none, c.requires.some))
    (move_cost frame c.args.stage number c.stretch_count.result c.open_at-opened.result kind column item
    c.has_bit-is_unmet.result (differs test column)
    c.requires.stage (omega arith) (c.index-constraints-number.is ∙ ap (λ xs. get_or xs number item) same)
    c.stretch_count.ensures.value
    (c.open_at-opened.ensures c.args.stage) c.has_bit-is_unmet.ensures c.requires.fits.stretches.unmet
    (λ phase e. c.cost_test.ensures.columns phase e column (omega (arith, wide, c.len-width.ensures))))
