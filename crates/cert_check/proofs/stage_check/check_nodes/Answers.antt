use Rattle.std.proofs.{Common.{◌≡◌, List, length, ap, arith, ⊎_elim}, lemmas.Bool.cases_lt}
use Rattle.std.proofs.lemmas.Result.{err_from_is_err_and}
use Rattle.answer_text.specs.declared.stage.Node.{Node}
use Rattle.cert_check.proofs.{LeftSteps.{left_of_none, left_of_more, left_of_all}, Orders.ascends_by}
use Rattle.cert_check.proofs.{StageSteps.{node_here, place_in, after_before, first_in_node}, Stops.stop_says}
use Rattle.cert_check.proofs.Subjects.{nodes_read}
use Rattle.cert_check.proofs.stage_check.check_nodes.Goals as goal

pub loop-number-init : goal.loop-number-init
loop-number-init c = record {
  right = λ n l. absurd (omega (arith, l));
  left = left_of_none _ _ _ c.new-left.ensures.items;
}

pub check_node-requires-clause-place : goal.check_node-requires-clause-place
check_node-requires-clause-place c =
    let s = c.args.subject.now in
    let read = nodes_read s c.requires.ready _ c.requires.stage _ _ c.as_slice-nodes.ensures.value c.index.ensures in
    place_in s _ c.requires.ready c.requires.stage c.requires.order _ _
    (node_here s _ c.requires.ready c.requires.stage _ _ _ read c.loop-number-test.true c.index-nodes-number.is)

pub check_node-requires-clause-ascends : goal.check_node-requires-clause-ascends
check_node-requires-clause-ascends c = ascends_by c.args.subject.now _ c.requires.order

pub check_node-requires-clause-before : goal.check_node-requires-clause-before
check_node-requires-clause-before c =
    let s = c.args.subject.now in
    let read = nodes_read s c.requires.ready _ c.requires.stage _ _ c.as_slice-nodes.ensures.value c.index.ensures in
    after_before s _ c.requires.ready c.requires.stage c.requires.order _ _ _
    (node_here s _ c.requires.ready c.requires.stage _ _ _ read c.loop-number-test.true c.index-nodes-number.is)
    c.requires.before

pub returns-in_err-check_node-clause-err : goal.returns-in_err-check_node-clause-err
returns-in_err-check_node-clause-err c =
    let s = c.args.subject.now in
    let p = err_from_is_err_and c.from_residual-in_err-check_node.result c.from_residual-in_err-check_node.ensures.1 in
    rw (p.1, p.2) (stop_says _ _ (λ fault. first_in_node s _ c.requires.ready c.requires.stage c.requires.order
    c.requires.start _ _ c.loop-number.invariant.right) _ c.in_err-check_node.ensures.err)

pub loop-number-preserved : goal.loop-number-preserved
loop-number-preserved c =
    let s = c.args.subject.now in
    let read = nodes_read s c.requires.ready _ c.requires.stage _ _ c.as_slice-nodes.ensures.value c.index.ensures in
    record {
      right = λ n l. ⊎_elim
          (λ below. c.loop-number.invariant.right n below)
          (λ above. let is : c.loop-number.number ≡ n = omega arith in
          rw is at c.in_ok-check_node.ensures.ok) (cases_lt n c.loop-number.number);
      left = left_of_more s _ _ _ _ _ _
          (node_here s _ c.requires.ready c.requires.stage _ _ _ read c.loop-number-test.true c.index-nodes-number.is)
          c.loop-number.invariant.left c.in_ok-push.ensures.items c.in_ok-check_node.ensures.left;
    }

pub returns-clause-left : goal.returns-clause-left
returns-clause-left c =
    let s = c.args.subject.now in
    left_of_all s _ _ _ c.loop-number.invariant.left (omega (
      arith,
      c.loop-number-test.false,
      c.loop-number.auto.number-end,
      ap (λ (ns : List Node). length ns)
          (nodes_read s c.requires.ready _ c.requires.stage _ _ c.as_slice-nodes.ensures.value c.index.ensures),
    ))
