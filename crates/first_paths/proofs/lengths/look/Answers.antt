use Rattle.std.proofs.{Common.{None, refl, sym, ◌∙◌}, lemmas.List.get_or_read}
use Rattle.weight_law.specs.declared.count.Count.{Count}
use Rattle.first_paths.proofs.Counts.{some_known, none_known, one_known, one_unknown}
use Rattle.first_paths.proofs.lengths.look.Goals as goal

pub returns-then-is_some : goal.returns-then-is_some
returns-then-is_some c =
    let left = c.args.left.now.items in
    let s = c.args.state in
    let known = some_known c.index.result.now (sym c.is_some.ensures ∙ c.if-is_some.true) in
    one_known c.args.n left c.args.next.now.items s known.0
    (sym (get_or_read left s c.index.result.now c.requires c.index.ensures None) ∙ known.1)

pub returns : goal.returns
returns c =
    let left = c.args.left.now.items in
    let s = c.args.state in
    rw c.in_ok-push.ensures.items
    (one_unknown c.args.n left c.args.next.now.items s (let n : Count = record { 0 = c.args.n } in n) refl
    (sym (get_or_read left s c.index.result.now c.requires c.index.ensures None)
    ∙ none_known c.index.result.now (sym c.is_some.ensures ∙ c.if-is_some.false)) c.requires)
