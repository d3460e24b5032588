use Rattle.std.proofs.{Common.{◌∙◌, map, sym}, lemmas.Result.err_from_is_err_and}
use Rattle.answer_text.specs.Values.{arc_value}
use Rattle.answer_reader.specs.{Left.Takes, States.next_arc}
use Rattle.answer_reader.proofs.StateLoops.{arcs_start, arc_read, arc_refused, arcs_read}
use Rattle.answer_reader.proofs.state_loop.read_arcs.Goals as goal

pub reading-init : goal.reading-init
reading-init c = arcs_start _ _ _ _ c.new-arcs.ensures.items

pub returns-in_err-arc-clause-goes_on : goal.returns-in_err-arc-clause-goes_on
returns-in_err-arc-clause-goes_on c = λ more states state.
    let p = err_from_is_err_and c.from_residual.result c.from_residual.ensures.1 in
    rw (p.1, p.2) (arc_refused c.args.width c.args.nodes c.args.lines.now c.reading.lines c.reading.arcs.items
    c.reading.invariant c.read_arc.new.lines c.in_err-arc.field-0.0 (sym c.begins.ensures ∙ c.reading-test.true)
    (rw c.deref.ensures.value at c.in_err-arc.ensures.takes) more states state)

pub reading-preserved : goal.reading-preserved
reading-preserved c = arc_read c.args.width c.args.nodes c.args.lines.now c.reading.lines c.reading.arcs.items
    c.reading.invariant c.read_arc.new.lines c.in_ok-arc.arc c.push.new.self.items
    (sym c.begins.ensures ∙ c.reading-test.true) (rw c.deref.ensures.value at c.in_ok-arc.ensures.takes)
    c.in_ok-arc.ensures.within c.in_ok-push.ensures.items

pub returns-clause-goes_on : goal.returns-clause-goes_on
returns-clause-goes_on c = λ more states state. arcs_read _ _ _ _ _ c.reading.invariant
    (sym c.begins.ensures ∙ c.reading-test.false) _ _ _
