use Rattle.std.proofs.{Common.{◌≡◌, List, sym, subst, arith}, lemmas.Result.{IfOk-weaker, IfErr-weaker}}
use Rattle.tier_core.specs.declared.kind.Kind.{Kind}
use Rattle.arc_table.specs.States.{states_of}
use Rattle.violation.specs.Candidates.{IsCandidate}
use Rattle.kind_moves.specs.Frames.{problem_in}
use Rattle.stage_tables.specs.declared.stage_table.ExploreErr.TheVariants.{OverBudget}
use Rattle.stage_tables.specs.Explored.{IsComplete, HasMoreKinds}
use Rattle.stage_tables.proofs.WholeTables.{whole_over_one, whole_wide, whole_goes_on, is_complete}
use Rattle.stage_tables.proofs.Named.{over_budget}
use Rattle.stage_tables.proofs.exploration.explore_all.Goals as goal

pub invariant_of-exploring-clause-over_one : goal.invariant_of-exploring-clause-over_one
invariant_of-exploring-clause-over_one c = whole_over_one _ _ c.requires.stage _ c.in-Ok.ensures

pub invariant_of-exploring-clause-wide : goal.invariant_of-exploring-clause-wide
invariant_of-exploring-clause-wide c = whole_wide _ _ c.requires.stage _ c.in-Ok.ensures

pub returns-clause-complete : goal.returns-clause-complete
returns-clause-complete c =
    let frame = c.args.frame.now in
    let kept = states_of c.in-Ok.whole in
    IfOk-weaker c.all_states.result _
    (λ found. IsComplete frame c.args.stage found.kinds.items (states_of found.table))
    (λ found is. subst (λ (kinds : List Kind). IsComplete frame c.args.stage kinds (states_of found.table))
    (sym is.named)
    (is_complete frame c.args.stage c.requires.stage kept c.in-Ok.ensures 1 is.entries is.found
    (states_of found.table) is.taken is.all (omega arith)))
    c.all_states.ensures.found

pub returns-clause-over : goal.returns-clause-over
returns-clause-over c =
    let frame = c.args.frame.now in
    let kept = states_of c.in-Ok.whole in
    IfErr-weaker c.all_states.result _
    (λ e. e ≡ OverBudget → HasMoreKinds frame c.args.stage (IsCandidate (problem_in frame)) c.args.budget)
    (λ e told over. let listed = (told over).0 in let beyond = (told over).1 in
    over_budget frame 1 c.args.stage kept listed.kinds.entries beyond.found
    (IsCandidate (problem_in frame)) (whole_goes_on frame c.args.stage c.requires.stage kept c.in-Ok.ensures)
    c.args.budget beyond.more)
    c.all_states.ensures.over
