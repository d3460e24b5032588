use Rattle.std.proofs.Common.{◌≡◌, ◌+◌, ◌-◌, ◌++◌, List, [], ◌∷◌, Option, None, Some, length, sym, ap, subst, ◌∙◌}
use Rattle.std.proofs.{Common.{append_assoc, arith}, lemmas.List.{append-nil, get_or_read}}
use Rattle.weight_law.specs.declared.count.Count.{Count}
use Rattle.tier_core.specs.declared.sym.Sym.{Sym}
use Rattle.arc_table.specs.Moves.{moves_at}
use Rattle.arc_table.proofs.Push.{targets_each}
use Rattle.first_paths.proofs.{Counts.{same_left, known_inside}, TableSteps.{one_target, first_accepted, run_reads}}
use Rattle.first_paths.proofs.FirstStep.{IsFirstFrom, is_first, first_empty, first_step, step_exists}
use Rattle.first_paths.proofs.{Choosing.{choice_exists, least_step}, Results.on_ok}
use Rattle.first_paths.specs.Counted.{IsLeft, Goes, IsEnd, IsLeastChoice}
use Rattle.first_paths.proofs.follow.first.Goals as goal

pub returns-in-None : goal.returns-in-None
returns-in-None c =
    λ timeline accepted.
    (let states = c.args.table.now.states.items in
    let way = run_reads states 0 accepted.0 timeline accepted.1.run accepted.1.reads in
    let left = c.in_ok-left.left.items in
    let bound = c.in_ok-left.ensures.lengths.least 0 timeline way in
    let at = bound.1.0 in
    let read = get_or_read left 0 c.index.result.now (known_inside left 0 bound.0 at) c.index.ensures None in
    let no : None ≡ Some at.0 = sym c.in-None.is ∙ read ∙ at.1 in
    cc)

pub choose-choice-requires-clause-targets : goal.choose-choice-requires-clause-targets
choose-choice-requires-clause-targets c =
    rw (c.arcs.ensures, c.deref.ensures.value)
    (targets_each c.args.table.now.states.items c.args.table.now.targets
    (length c.in_ok-left.left.items) c.in_ok-left.ensures.each c.loop-done.state)

pub choose-choice-requires-clause-some : goal.choose-choice-requires-clause-some
choose-choice-requires-clause-some c =
    let table = c.args.table.now in
    let states = table.states.items in
    let left = c.in_ok-left.left.items in
    let s = c.loop-done.state in
    let at = c.loop-done.invariant.left_is in
    let n = c.in-Some.most.0 - 1 - c.loop-done.done in
    rw (c.arcs.ensures, c.deref.ensures.value)
    (choice_exists states table.filled left s n
    (step_exists (Goes states) (IsEnd states) (IsLeft left) (same_left left) c.in_ok-left.ensures.lengths s n
    (at.0, at.1, omega (arith, at.2, c.loop-done-test.true))))

pub loop-done-preserved : goal.loop-done-preserved
loop-done-preserved c =
    let table = c.args.table.now in
    let states = table.states.items in
    let left = c.in_ok-left.left.items in
    let s = c.loop-done.state in
    let inv = c.loop-done.invariant in
    let at = inv.left_is in
    let n = c.in-Some.most.0 - 1 - c.loop-done.done in
    let here : IsLeft left s (n + 1) = (at.0, at.1, omega (arith, at.2, c.loop-done-test.true)) in
    let choice = c.choose-choice.result in
    let L : List (Option Count) → Type 0 = λ l. IsLeastChoice l n c.arcs.result.now choice.column choice.target in
    let chosen : IsLeastChoice left n (moves_at states s) choice.column choice.target = rw c.arcs.ensures at
    (subst L c.deref.ensures.value c.choose-choice.ensures) in
    let least = least_step states table.filled left s n choice.column choice.target chosen in
    let near = least.nearer in
    let longer : c.push.new.self ≡ c.loop-done.timeline ++ choice.column ∷ [] =
    on_ok c.push.result c.push.ensures.ok (sym c.is_err.ensures.value ∙ c.if-is_err.false) in
    record {
      inside = omega (arith, known_inside left choice.target n near, c.in_ok-left.ensures.each);
      left_is = (near.0, near.1, omega (arith, near.2));
      first = λ word first.
          (let F : List (List Sym) → Type 0 = IsFirstFrom (Goes states) (IsEnd states) 0 in
          let whole = inv.first (choice.column ∷ word)
          (first_step (Goes states) (IsEnd states) (IsLeft left) (same_left left) c.in_ok-left.ensures.lengths
          (one_target states table.disjoint) s n here choice.column choice.target least word first) in
          subst F (sym (ap (λ xs. xs ++ word) longer
          ∙ append_assoc c.loop-done.timeline (choice.column ∷ []) word)) whole);
    }

pub returns : goal.returns
returns c =
    let states = c.args.table.now.states.items in
    let left = c.in_ok-left.left.items in
    let at = c.loop-done.invariant.left_is in
    let columns = c.loop-done.timeline in
    let F : List (List Sym) → Type 0 = IsFirstFrom (Goes states) (IsEnd states) 0 in
    let none : IsLeft left c.loop-done.state 0 = (at.0, at.1, omega (arith, at.2, c.loop-done-test.false)) in
    first_accepted states columns (is_first (Goes states) (IsEnd states) 0 columns (subst F (append-nil columns)
    (c.loop-done.invariant.first []
    (first_empty (Goes states) (IsEnd states) (IsLeft left) (same_left left) c.in_ok-left.ensures.lengths
    c.loop-done.state none))))
