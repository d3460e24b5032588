use Rattle.std.proofs.{Common.{◌≡◌, length, ap, ◌∙◌}, lemmas.Result.err_from_is_err_and}
use Rattle.answer_text.specs.Readable.{last_nodes}
use Rattle.answer_reader.specs.Heads.{head_seen}
use Rattle.answer_reader.proofs.Whole.{whole_read, whole_refused}
use Rattle.answer_reader.proofs.read.read_answer.Goals as goal

pub returns-in_err-states-clause-err : goal.returns-in_err-states-clause-err
returns-in_err-states-clause-err c =
    let p = err_from_is_err_and c.from_residual-in_err-states.result c.from_residual-in_err-states.ensures.1 in
    let n : c.last_count-nodes.result
    ≡ length (last_nodes c.in_ok-found.found.stages.items) = c.last_count-nodes.ensures.nodes
    ∙ ap (λ stages. length (last_nodes stages)) c.deref.ensures.value in
    rw (p.1, p.2) (whole_refused c.args.shape.now c.args.bytes.now c.of_text-lines.result c.read_head.new.lines
    c.read_stages.new.lines (head_seen c.in_ok-head.head) c.in_ok-found.found.stages.items
    c.in_ok-found.found.states c.of_text-lines.ensures.lines c.of_text-lines.ensures.number
    c.in_ok-head.ensures.goes_on (rw c.len.ensures at c.in_ok-found.ensures.goes_on) c.in_err-states.field-0.0
    (rw n at c.in_err-states.ensures.goes_on))

pub returns-clause-ok : goal.returns-clause-ok
returns-clause-ok c =
    let n = c.last_count-nodes.ensures.nodes ∙ ap (λ stages. length (last_nodes stages)) c.deref.ensures.value in
    whole_read c.args.shape.now c.args.bytes.now c.of_text-lines.result c.read_head.new.lines c.read_stages.new.lines
    (head_seen c.in_ok-head.head) c.in_ok-found.found.stages.items _ c.of_text-lines.ensures.lines
    c.of_text-lines.ensures.number c.in_ok-head.ensures.goes_on (rw c.len.ensures at c.in_ok-found.ensures.goes_on) _
    (rw n at c.in_ok-states.ensures.goes_on)
