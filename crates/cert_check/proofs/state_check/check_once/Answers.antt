use Rattle.std.proofs.Common.{List, Option, MatchOption}
use Rattle.tier_core.specs.{declared.sym.Sym.Sym}
use Rattle.answer_text.specs.declared.automaton.ArcLine.{ArcLine}
use Rattle.cert_check.specs.{Arcs.{is_twice, IsLeastColumn, IsNoColumn}, Subjects.problem_of}
use Rattle.cert_check.proofs.{StateFaults.{twice_right, first_twice}, StateSubjects.{states_ascend, arcs_wide}}
use Rattle.cert_check.proofs.state_check.check_once.Goals as goal

abbrev IsLeastTwice : List ArcLine → Option (List Sym) → Type 0
IsLeastTwice arcs least = MatchOption least (IsNoColumn (is_twice arcs)) (IsLeastColumn (is_twice arcs))

pub least_twice-requires : goal.least_twice-requires
least_twice-requires c =
    let s = c.args.subject.now in (
      (problem_of s).tiers.width,
      rw c.deref.ensures.value (arcs_wide s c.requires.staged _ _ c.requires.at),
    )

pub returns-in-None-clause-ok : goal.returns-in-None-clause-ok
returns-in-None-clause-ok c =
    let s = c.args.subject.now in
    twice_right (problem_of s) _ (states_ascend s c.requires.staged) _ c.requires.at.listed
    (rw c.deref.ensures.value at (rw c.in-None.is at c.in_ok-least.ensures))

pub returns-in-Some-clause-err : goal.returns-in-Some-clause-err
returns-in-Some-clause-err c =
    let s = c.args.subject.now in
    first_twice _ _ (states_ascend s c.requires.staged) _ c.requires.at.listed c.requires.targets c.requires.mark _
    (rw c.deref.ensures.value at (rw c.in-Some.is at c.in_ok-least.ensures))
