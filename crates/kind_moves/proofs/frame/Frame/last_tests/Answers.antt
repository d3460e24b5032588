use Rattle.std.proofs.Common.{◌≡◌, ◌||◌, length, get_or, ap, ap₂, sym, ◌∙◌, subst, arith}
use Rattle.symbol_class.specs.Parts.{differs}
use Rattle.tier_core.specs.Kinds.{phase_at}
use Rattle.violation.specs.{Conditions.IsOverTiers, Moves.is_met_phase}
use Rattle.violation.proofs.KindBits.{met_at}
use Rattle.kind_moves.specs.Frames.{tiers_in, constraints_in}
use Rattle.kind_moves.proofs.{CostLaws.over_at, LastPhase.{parts_last, met_last}}
use Rattle.kind_moves.proofs.frame.Frame.last_tests.Goals.{After-index-constraints-number}
use Rattle.kind_moves.proofs.frame.Frame.last_tests.Goals as goal

-- which constraint is the last one
last_is : (c : After-index-constraints-number) → c.index-constraints-number.result
    ≡ get_or (constraints_in c.args.self.now) c.args.before c.index-constraints-number.result
last_is c =
    let item = c.index-constraints-number.result in
    let same : c.as_slice-constraints.result.now ≡ constraints_in c.args.self.now
    = c.as_slice-constraints.ensures.value in
    c.index-constraints-number.is ∙ ap (λ xs. get_or xs c.args.before item) same

over : (c : After-index-constraints-number) → IsOverTiers c.len-width.result c.index-constraints-number.result
over c =
    let frame = c.args.self.now in
    let item = c.index-constraints-number.result in
    let width : (tiers_in frame).width ≡ c.len-width.result = omega (arith, c.len-width.ensures) in
    subst (λ w. IsOverTiers w item) width (over_at frame c.args.before item (omega arith) (last_is c))

pub opens_met-begun-requires-clause-over : goal.opens_met-begun-requires-clause-over
opens_met-begun-requires-clause-over c = over c

pub goes_on_met-met-requires-clause-over : goal.goes_on_met-met-requires-clause-over
goes_on_met-met-requires-clause-over c = over
    (goal.at.goes_on_met-met-requires-clause-over c).After-index-constraints-number

pub returns : goal.returns
returns c =
    let frame = c.args.self.now in
    let kind = c.args.kind.now in
    let last = c.index-constraints-number.result in
    let was_met = c.has_bit-was_met.result in
    let is = last_is (goal.at.returns c).After-index-constraints-number in
    let told = c.has_bit-was_met.ensures ∙ met_at kind c.stretch_count-bit.result
    ∙ ap (λ n. is_met_phase (phase_at kind n)) c.stretch_count-bit.ensures.value in
    record {
      phase = c.requires.phase;
      begun_width = omega (arith, c.opens_met-begun.ensures.width, c.len-width.ensures);
      met_width = omega (arith, c.goes_on_met-met.ensures.width, c.len-width.ensures);
      cost_width = c.cost_test-cost.ensures.width;
      moved = parts_last frame c.args.before c.args.stage kind last was_met c.requires.next c.requires.stage
          c.requires.phase is told (differs c.goes_on_met-met.result)
          (λ column wide. c.goes_on_met-met.ensures.columns column (omega (arith, wide, c.len-width.ensures)));
      bit = c.stretch_count-bit.ensures.value;
      few = c.stretch_count-bit.ensures.few;
      met_after = λ column next fits leads.
          (let wide : length column ≡ c.len-width.result = omega (arith, fits.width, c.len-width.ensures) in
          met_last frame c.args.before c.args.stage kind last was_met c.requires.next c.requires.stage
          c.requires.phase is told column next leads
          ∙ sym (ap₂ (λ a b. a || b) (c.opens_met-begun.ensures.columns column wide)
          (c.goes_on_met-met.ensures.columns column wide)));
      costs = c.cost_test-cost.ensures.columns;
    }
