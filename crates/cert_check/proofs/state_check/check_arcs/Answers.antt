use Rattle.std.proofs.Common.{List, arith, subst}
use Rattle.answer_text.specs.declared.automaton.ArcLine.{ArcLine}
use Rattle.cert_check.specs.{Arcs.{do_differ, IsLeastColumn, IsNoColumn}}
use Rattle.cert_check.specs.Subjects.{problem_of}
use Rattle.cert_check.proofs.{LastArcs.{ascends_at, one_kept_target}, StateFaults.{arcs_right, first_arcs}}
use Rattle.cert_check.proofs.StateSubjects.{states_ascend, arcs_wide, of_kind}
use Rattle.cert_check.proofs.state_check.check_arcs.Goals as goal

pub least_differing-requires : goal.least_differing-requires
least_differing-requires c =
    let s = c.args.subject.now in (
      (problem_of s).tiers.width,
      (rw c.deref.ensures.value (arcs_wide s c.requires.staged _ _ c.requires.at), c.requires.kept.one_width),
    )

pub returns-in-None-clause-ok : goal.returns-in-None-clause-ok
returns-in-None-clause-ok c =
    let s = c.args.subject.now in
    arcs_right _ _ (states_ascend s c.requires.staged) _ c.requires.at.listed _
    (of_kind s c.requires.staged _ _ c.requires.at) c.requires.once _ c.requires.kept
    (one_kept_target s _ _ c.requires.kept (ascends_at s c.requires.staged _ (omega arith)))
    (subst (λ (xs : List ArcLine). IsNoColumn (do_differ xs c.args.kept.now)) c.deref.ensures.value
    (rw c.in-None.is at c.in_ok-least.ensures))

pub returns-in-Some-clause-err : goal.returns-in-Some-clause-err
returns-in-Some-clause-err c =
    let s = c.args.subject.now in
    first_arcs _ _ (states_ascend s c.requires.staged) _ c.requires.at.listed _
    (of_kind s c.requires.staged _ _ c.requires.at) c.requires.once _ c.requires.kept
    (one_kept_target s _ _ c.requires.kept (ascends_at s c.requires.staged _ (omega arith))) c.requires.targets
    c.requires.mark _
    (subst (λ (xs : List ArcLine). IsLeastColumn (do_differ xs c.args.kept.now) c.in-Some.column) c.deref.ensures.value
    (rw c.in-Some.is at c.in_ok-least.ensures)) _ _ (rw c.deref-in-Some.ensures.value at c.target_on-listed.ensures)
    c.target_on-kept.ensures
