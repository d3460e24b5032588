use Rattle.std.proofs.Common.{sym, ◌∙◌, true≢false}
use Rattle.violation.specs.Problems.{last_stage}
use Rattle.cert_check.specs.{Subjects.problem_of}
use Rattle.cert_check.proofs.StateFaults.{mark_right, first_mark}
use Rattle.cert_check.proofs.StateSubjects.{states_ascend, of_kind, opened_few}
use Rattle.cert_check.proofs.state_check.check_mark.Goals as goal

pub is_final-requires : goal.is_final-requires
is_final-requires c = record {
  opened = opened_few _ c.requires.staged _ _ c.requires.at;
}

pub returns-then-not-is_same-clause-err : goal.returns-then-not-is_same-clause-err
returns-then-not-is_same-clause-err c =
    let s = c.args.subject.now in
    first_mark _ _ (states_ascend s c.requires.staged) _ c.requires.at.listed _
    (of_kind s c.requires.staged _ _ c.requires.at) c.requires.targets (λ e. true≢false
    (sym (c.is_same.ensures.1 (e ∙ sym (c.is_final.ensures (last_stage (problem_of s))))) ∙ c.if-not-is_same.true))

pub returns-clause-ok : goal.returns-clause-ok
returns-clause-ok c =
    let s = c.args.subject.now in
    mark_right _ _ (states_ascend s c.requires.staged) _ c.requires.at.listed _
    (of_kind s c.requires.staged _ _ c.requires.at)
    (c.is_same.ensures.0 c.if-not-is_same.false ∙ c.is_final.ensures (last_stage (problem_of s)))
