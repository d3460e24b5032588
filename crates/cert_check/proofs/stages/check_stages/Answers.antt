use Rattle.std.proofs.Common.{◌≡◌, ◌+◌, ◌-◌, subst, arith, ⊎_elim}
use Rattle.std.proofs.{lemmas.Bool.cases_lt, lemmas.Result.err_from_is_err_and}
use Rattle.cert_check.specs.{Left.AreLeftAt, Nodes.IsFaultlessStage, Subjects.{AscendsAt, problem_of}}
use Rattle.cert_check.proofs.{StageSteps.first_stage, Stops.stop_says}
use Rattle.cert_check.proofs.stages.check_stages.Goals as goal

pub returns-in_err-left-clause-err : goal.returns-in_err-left-clause-err
returns-in_err-left-clause-err c =
    let s = c.args.subject.now in
    let p = err_from_is_err_and c.from_residual.result c.from_residual.ensures.1 in
    rw (p.1, p.2) (stop_says _ _
    (λ fault. first_stage s c.requires.ready c.requires.head _ _ c.loop-stage.invariant.right) _
    c.in_err-left.ensures.err)

pub loop-stage-preserved : goal.loop-stage-preserved
loop-stage-preserved c =
    let s = c.args.subject.now in
    let here : c.loop-stage.stage ≡ c.loop-stage.stage + 1 - 1 = omega arith in
    record {
      right = λ r l. ⊎_elim (λ below. c.loop-stage.invariant.right r below)
          (λ above. let is : c.loop-stage.stage ≡ r = omega (arith, l, above) in
          subst (IsFaultlessStage (problem_of s) s.answer.now) is c.in_ok-left.ensures.right)
          (cases_lt r c.loop-stage.stage);
      before = λ one. (
        subst (AscendsAt s) here c.in_ok-left.ensures.ascends,
        subst (λ n. AreLeftAt s n c.in_ok-left.left.items) here c.in_ok-left.ensures.left,
      );
    }
