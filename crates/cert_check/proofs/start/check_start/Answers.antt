use Rattle.std.proofs.Common.{◌<◌, List, length, sym, ap, ◌∙◌, arith, true≢false, eqb-true}
use Rattle.std.proofs.{lemmas.Option.{slice_get_within, get_or_from_slice_get}, lemmas.List.length-map}
use Rattle.std.proofs.lemmas.Bool.{eqb-false}
use Rattle.answer_text.specs.declared.stage.Node.{Node}
use Rattle.violation.specs.Prefixes.{kind_of_bits}
use Rattle.cert_check.specs.Subjects.{problem_of, stage_nodes}
use Rattle.cert_check.proofs.{Starts.first_missing, Subjects.{nodes_read, number_fits, number_bits}}
use Rattle.cert_check.proofs.start.check_start.Goals as goal

pub returns-then-is_empty-clause-err : goal.returns-then-is_empty-clause-err
returns-then-is_empty-clause-err c =
    let s = c.args.subject.now in
    let read =
    nodes_read s c.requires.ready _ c.requires.stage _ _ c.as_slice-nodes.ensures.value c.index.ensures in
    let none = eqb-true _ 0 (sym c.is_empty.ensures ∙ c.if-is_empty.true) in
    first_missing s _ c.requires.ready c.requires.stage c.requires.order (λ e.
    let there = slice_get_within _ 0 _ e in
    absurd (omega (
      arith,
      there,
      none,
      ap (λ (xs : List Node). length xs) read,
      length-map (stage_nodes s c.args.stage) (λ (node : Node). kind_of_bits (problem_of s) c.args.stage node.kind),
    )))

pub is_start-requires-clause-fits : goal.is_start-requires-clause-fits
is_start-requires-clause-fits c =
    let s = c.args.subject.now in
    let read =
    nodes_read s c.requires.ready _ c.requires.stage _ _ c.as_slice-nodes.ensures.value c.index.ensures in
    let some : 0 < length c.as_slice-nodes.result.now = omega
    (arith, eqb-false (length c.as_slice-nodes.result.now) 0 (sym c.is_empty.ensures ∙ c.if-is_empty.false)) in
    number_fits s c.requires.ready _ c.requires.stage _ 0 _ read some

pub returns-then-not-is_start-clause-err : goal.returns-then-not-is_start-clause-err
returns-then-not-is_start-clause-err c =
    let s = c.args.subject.now in
    let read =
    nodes_read s c.requires.ready _ c.requires.stage _ _ c.as_slice-nodes.ensures.value c.index.ensures in
    let some : 0 < length c.as_slice-nodes.result.now = omega
    (arith, eqb-false (length c.as_slice-nodes.result.now) 0 (sym c.is_empty.ensures ∙ c.if-is_empty.false)) in
    first_missing s _ c.requires.ready c.requires.stage c.requires.order (λ e. true≢false (sym (c.is_start.ensures.1
    (number_bits s c.requires.ready _ c.requires.stage _ 0 _ read some ∙ get_or_from_slice_get _ 0 _ _ e)) ∙
    c.if-not-is_start.true))
