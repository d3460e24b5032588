use Rattle.std.proofs.Common.{refl}
use Rattle.arc_table.specs.States.{states_of}
use Rattle.violation.specs.Problems.{last_stage}
use Rattle.kind_moves.specs.Frames.{problem_in}
use Rattle.answer_text.specs.Right.{nodes_at}
use Rattle.ranked_gen.proofs.{RankedSteps.part_of, StageList.right_answer}
use Rattle.ranked_gen.proofs.ranked.whole_answer.Goals as goal

pub ending_of-requires : goal.ending_of-requires
ending_of-requires c =
    let problem = problem_in c.args.frame.now in
    let ranked = c.args.ranked in
    let nodes = nodes_at ranked.stages.items (last_stage problem) in
    record {
      part = (
        nodes,
        part_of problem (last_stage problem) nodes
            (states_of ranked.left.kept.table) ranked.left.kept.states.items ranked.left.order.items
            c.requires.ranked.1.left,
      );
    }

pub returns-clause-right : goal.returns-clause-right
returns-clause-right c =
    let problem = problem_in c.args.frame.now in
    let ranked = c.args.ranked in
    let nodes = nodes_at ranked.stages.items (last_stage problem) in
    let part = part_of problem (last_stage problem) nodes
    (states_of ranked.left.kept.table) ranked.left.kept.states.items ranked.left.order.items
    c.requires.ranked.1.left in
    right_answer problem c.requires.ranked.0
    (last_stage problem) ranked.stages.items ranked.counts.items c.requires.ranked.1.so_far refl _
    c.in_ok-own.ensures refl c.in_ok-example.ensures.example refl
    (c.in_ok-example.ensures.automaton nodes part)

pub returns-clause-fitting : goal.returns-clause-fitting
returns-clause-fitting c = c.requires.ranked.1.so_far.fit
