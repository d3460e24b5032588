use Rattle.std.proofs.Common.{refl, sym, ◌∙◌}
use Rattle.arc_table.specs.States.{states_of}
use Rattle.stage_tables.proofs.AtHand.{taken_at_hand}
use Rattle.stage_tables.proofs.exploring.Exploring.move_at_hand.Goals as goal

pub is_met_after-requires-clause-begun : goal.is_met_after-requires-clause-begun
is_met_after-requires-clause-begun c = c.requires.part.wide ∙ sym c.requires.tests.1.begun_width

pub is_met_after-requires-clause-met : goal.is_met_after-requires-clause-met
is_met_after-requires-clause-met c = c.requires.part.wide ∙ sym c.requires.tests.1.met_width

pub cost_of-requires : goal.cost_of-requires
cost_of-requires c = c.requires.part.wide ∙ sym c.requires.tests.1.cost_width

pub returns-clause-taken : goal.returns-clause-taken
returns-clause-taken c =
    let exploring = c.args.self.now in
    let are = c.requires.tests in
    let target = c.in_ok-target.ensures in
    taken_at_hand exploring are.0 (states_of exploring.kept.now) (c.requires.left are.0)
    c.args.listed.now.kinds.entries c.requires.found.found c.args.kind.now c.args.state c.requires.over
    c.args.tests.now are.1 c.args.arc.now c.requires.arc c.args.class.now c.requires.part c.in_ok-is_met.is_met
    c.in_ok-is_met.ensures target.0 c.in_ok-target.target target.1 target.2 c.in_ok-cost.cost c.in_ok-cost.ensures
    _ refl refl refl
