use Rattle.std.proofs.Common.{◌≡◌, Err, ap}
use Rattle.ranked_gen.specs.{declared.gen_err.GenErr.TheVariants.Budget, FittingKinds.HaveFittingKinds}
use Rattle.answer_text.specs.declared.answer.Answer.{Answer}
use Rattle.kind_orders.specs.JoinedArcs.{HaveJoinedArcs}
use Rattle.kind_moves.specs.Frames.{problem_in}
use Rattle.violation.specs.Problems.{last_stage}
use Rattle.ranked_gen.proofs.{StageKinds.whatever_ok, StageList.has_few, MappedErrors.kept_by_map_err}
use Rattle.ranked_gen.proofs.generator.answer_in.Goals as goal

pub returns-in-Err-clause-over : goal.returns-in-Err-clause-over
returns-in-Err-clause-over c = λ stage e.
    let same : c.in-Err.cause ≡ Budget stage = cc in
    c.in-Err.ensures.over stage (ap Err same)

pub returns-in-Ok-clause-joined : goal.returns-in-Ok-clause-joined
returns-in-Ok-clause-joined c =
    kept_by_map_err c.whole_answer.result c.map_err.result
    (λ (answer : Answer). HaveJoinedArcs answer.automaton.states.items) _ c.map_err.ensures.cases
    c.map_err.ensures.variant c.whole_answer.ensures.joined

pub returns-in-Ok-clause-listed : goal.returns-in-Ok-clause-listed
returns-in-Ok-clause-listed c =
    let problem = problem_in c.args.frame.now in
    whatever_ok _ _ (has_few problem c.args.budget (last_stage problem) c.in-Ok.ranked.stages.items
    c.in-Ok.ranked.counts.items c.in-Ok.ensures.ranked.so_far)

pub returns-in-Ok-clause-fitting : goal.returns-in-Ok-clause-fitting
returns-in-Ok-clause-fitting c =
    kept_by_map_err c.whole_answer.result c.map_err.result (HaveFittingKinds (problem_in c.args.frame.now)) _
    c.map_err.ensures.cases c.map_err.ensures.variant c.whole_answer.ensures.fitting
