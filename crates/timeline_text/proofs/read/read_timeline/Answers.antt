use Rattle.std.proofs.Common.{◌≡◌, ℕ, ◌<◌, List, length, None, subst, sym, ap, ◌∙◌, arith}
use Rattle.std.specs.List.{AllByRecursion}
use Rattle.tier_core.specs.{declared.sym.Sym.Sym, Words.IsWellFormedWord, Timelines.tier_word}
use Rattle.timeline_text.specs.{Texts.IsTextOf, Causes.{spaced_pieces, columns_of, no_edge, wrong_width}}
use Rattle.timeline_text.proofs.{Searches.none_any, Forms.widths_from, Deciding.no_cause}
use Rattle.timeline_text.proofs.read.read_timeline.Goals as goal

pub ill_formed-requires : goal.ill_formed-requires
ill_formed-requires c =
    let w : wrong_width c.args.width c.args.bytes.now ≡ None = cc in
    subst (AllByRecursion (λ (column : List Sym). length column ≡ c.args.width)) (sym c.in_ok-timeline.ensures)
    (widths_from c.args.width (spaced_pieces c.args.bytes.now) (none_any _ (spaced_pieces c.args.bytes.now) w))

pub returns-clause-ok : goal.returns-clause-ok
returns-clause-ok c =
    let e : no_edge (columns_of c.args.bytes.now) ≡ None = sym (ap no_edge c.in_ok-timeline.ensures)
    ∙ sym c.no_edge.ensures ∙ c.in_default-no_edge.is in
    let tiers = subst (λ (T : List (List Sym)). (t : ℕ) → t < c.args.width
    → IsWellFormedWord (tier_word T t)) c.in_ok-timeline.ensures c.in_default-ill_formed.ensures in
    subst (IsTextOf c.args.width c.args.limit c.args.bytes.now) (sym c.in_ok-timeline.ensures)
    (no_cause c.args.width c.args.limit c.args.bytes.now (cc) (cc) (omega arith) tiers e)
