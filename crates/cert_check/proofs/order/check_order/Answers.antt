use Rattle.std.proofs.Common.{◌≡◌, List, length, arith, sym, ap, ◌∙◌, true≢false, ⊎_elim}
use Rattle.std.proofs.lemmas.Bool.{cases_lt}
use Rattle.answer_text.specs.declared.stage.Node.{Node}
use Rattle.cert_check.proofs.{Orders.first_wrong, Subjects.nodes_read}
use Rattle.cert_check.proofs.order.check_order.Goals as goal

pub returns-then-not-is_in_order-clause-err : goal.returns-then-not-is_in_order-clause-err
returns-then-not-is_in_order-clause-err c =
    let s = c.args.subject.now in
    let read =
    nodes_read s c.requires.ready _ c.requires.stage _ _ c.as_slice-nodes.ensures.value c.index.ensures in
    first_wrong s _ c.requires.ready c.requires.stage _
    (omega (arith, c.loop-number-test.true, ap (λ (xs : List Node). length xs) read))
    (λ o. true≢false (sym (c.is_in_order.ensures.1 o) ∙ c.if-not-is_in_order.true)) c.loop-number.invariant

pub loop-number-preserved : goal.loop-number-preserved
loop-number-preserved c n l = ⊎_elim
    (λ below. c.loop-number.invariant n below)
    (λ above. let is : c.loop-number.number ≡ n = omega arith in
    rw is at (c.is_in_order.ensures.0 c.if-not-is_in_order.false)) (cases_lt n c.loop-number.number)

pub returns-clause-ok : goal.returns-clause-ok
returns-clause-ok c n l =
    let s = c.args.subject.now in
    let read =
    nodes_read s c.requires.ready _ c.requires.stage _ _ c.as_slice-nodes.ensures.value c.index.ensures in
    c.loop-number.invariant n (omega (arith, l, c.loop-number-test.false, ap (λ (xs : List Node). length xs) read))
