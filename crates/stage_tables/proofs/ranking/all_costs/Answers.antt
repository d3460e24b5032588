use Rattle.std.proofs.Common.{◌≡◌, ℕ, ◌+◌, ◌-◌, List, length, get_or, ap, ◌∙◌, arith}
use Rattle.grammar_reader.proofs.OverTiers.{few_constraints}
use Rattle.kind_moves.specs.Frames.{kind_at_stage, problem_in}
use Rattle.violation.specs.{Moves.move_costs, Problems.last_stage}
use Rattle.stage_tables.specs.Ranking.{costs_at}
use Rattle.stage_tables.proofs.FirstParts.{none_first, next_first, all_first, costs_long}
use Rattle.stage_tables.proofs.ranking.all_costs.Goals as goal

pub loop-place-init : goal.loop-place-init
loop-place-init c = record {
  all = omega (arith, c.len-number.ensures, c.args.frame.now.grammar.now.constraints.ok);
  first = none_first _;
}

pub loop-place-preserved : goal.loop-place-preserved
loop-place-preserved c =
    let frame = c.args.frame.now in
    let kind = c.args.kind.now in
    let column = c.args.column.now in
    let n = c.loop-place.place in
    let inv = c.loop-place.invariant in
    let few = few_constraints frame.grammar.now in
    let back : n + 1 - 1 ≡ n = omega arith in
    let cost = c.cost.ensures.cost ∙ ap (λ r. get_or (move_costs (problem_in frame) r (kind_at_stage frame r kind)
    column) (n + 1 - 1) 0) inv.all ∙ ap (λ i. get_or (costs_at frame kind column) i 0) back in
    record {
      all = inv.all;
      first = next_first _ _ n _ inv.first (omega (arith, c.loop-place-test.true, inv.all, few)) cost;
    }

pub returns : goal.returns
returns c =
    let frame = c.args.frame.now in
    let v : List ℕ = costs_at frame c.args.kind.now c.args.column.now in
    let inv = c.loop-place.invariant in
    let few = few_constraints frame.grammar.now in
    let long : length v ≡ last_stage (problem_in frame) = costs_long frame c.args.kind.now c.args.column.now in
    c.of_parts.ensures
    ∙ all_first v c.loop-place.parts c.loop-place.place inv.first
    (omega (arith, long, inv.all, c.loop-place-test.false, c.loop-place.auto.place-end))
    (omega (arith, inv.all, c.loop-place.auto.place-end, few))
