use Rattle.std.proofs.{Common.{◌≡◌, List, sym, subst}, lemmas.Result.{IfOk-weaker, IfErr-weaker}}
use Rattle.tier_core.specs.declared.kind.Kind.{Kind}
use Rattle.arc_table.specs.{States.states_of, Runs.Accepts}
use Rattle.stage_tables.specs.declared.stage_table.ExploreErr.TheVariants.{OverBudget}
use Rattle.stage_tables.specs.Explored.{IsExplored, HasMoreKinds}
use Rattle.stage_tables.proofs.{KeptTables.{kept_over_one, kept_wide, kept_goes_on, is_explored}, Named.over_budget}
use Rattle.stage_tables.proofs.exploration.explore.Goals as goal

pub invariant_of-exploring-clause-over_one : goal.invariant_of-exploring-clause-over_one
invariant_of-exploring-clause-over_one c =
    kept_over_one c.args.frame.now c.args.before c.args.stage c.requires.further c.requires.stage
    (states_of c.args.kept.now) c.requires.kept.0 c.requires.kept.1

pub invariant_of-exploring-clause-wide : goal.invariant_of-exploring-clause-wide
invariant_of-exploring-clause-wide c =
    kept_wide c.args.frame.now c.args.before c.args.stage c.requires.further c.requires.stage
    (states_of c.args.kept.now) c.requires.kept.0 c.requires.kept.1

pub returns-clause-explored : goal.returns-clause-explored
returns-clause-explored c =
    let frame = c.args.frame.now in
    let kept = states_of c.args.kept.now in
    IfOk-weaker c.all_states.result _
    (λ found. IsExplored frame c.args.stage kept found.kinds.items (states_of found.table))
    (λ found is. subst (λ (kinds : List Kind). IsExplored frame c.args.stage kept kinds (states_of found.table))
    (sym is.named)
    (is_explored frame c.args.before c.args.stage c.requires.further c.requires.stage kept c.requires.kept.0
    c.requires.kept.1 c.args.stage is.entries is.found (states_of found.table) is.taken is.all))
    c.all_states.ensures.found

pub returns-clause-over : goal.returns-clause-over
returns-clause-over c =
    let frame = c.args.frame.now in
    let kept = states_of c.args.kept.now in
    IfErr-weaker c.all_states.result _
    (λ e. e ≡ OverBudget → HasMoreKinds frame c.args.stage (Accepts kept) c.args.budget)
    (λ e told over. let listed = (told over).0 in let beyond = (told over).1 in
    over_budget frame c.args.stage c.args.stage kept listed.kinds.entries beyond.found
    (Accepts kept) (kept_goes_on frame c.args.before c.args.stage c.requires.further c.requires.stage kept
    c.requires.kept.0 c.requires.kept.1) c.args.budget beyond.more)
    c.all_states.ensures.over
