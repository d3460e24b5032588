use Rattle.std.proofs.Common.{map, ap, ◌∙◌}
use Rattle.std.specs.String.{string_bytes}
use Rattle.outside.proofs.Writing.{stop, up_to_as, up_to_none, up_to_more, up_to_stop}
use Rattle.grammar_reader.specs.{Canonical.constraint_words, Seen.constraint_seen}
use Rattle.grammar_reader.proofs.{FromLine.from_line, LineText.next_line}
use Rattle.grammar_reader.proofs.put.push_constraints.Goals as goal

pub loop-constraint-init : goal.loop-constraint-init
loop-constraint-init g c = up_to_none c.args.sink.now c.args.out.now _

pub loop-constraint-preserved : goal.loop-constraint-preserved
loop-constraint-preserved g c =
    let cuts = ap (map constraint_seen) (from_line _ _ _ c.loop-constraint-test.true c.constraint-item.is) in
    let has = c.as_slice.ensures ∙ c.constraint_words.ensures in
    let next = next_line (constraint_words (map string_bytes c.args.names.now)) cuts has in
    let left = up_to_as next c.loop-constraint.invariant in
    up_to_more left c.in_ok-push_line.ensures

pub returns-in_err-push_line : goal.returns-in_err-push_line
returns-in_err-push_line g c =
    let cuts = ap (map constraint_seen) (from_line _ _ _ c.loop-constraint-test.true c.constraint-item.is) in
    let has = c.as_slice.ensures ∙ c.constraint_words.ensures in
    let next = next_line (constraint_words (map string_bytes c.args.names.now)) cuts has in
    let left = up_to_as next c.loop-constraint.invariant in
    stop c.from_residual.ensures.1 (up_to_stop _ left c.in_err-push_line.ensures)
