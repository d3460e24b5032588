use Rattle.std.proofs.Common.{◌≡◌, ◌&&◌, ◌++◌, List, length, sym, ap₂, ◌∙◌}
use Rattle.tier_core.specs.{declared.event.Event.Event, declared.sym.Sym.Sym, Classes.has, Sides.has_edge_type}
use Rattle.cert_check.specs.declared.boxes.Asked.TheVariants.{Present, Absent, NoEdge}
use Rattle.cert_check.proofs.TestLemmas.{all_so, implication_alike, edge_clash_alike, inside_clash_alike}
use Rattle.cert_check.proofs.parting.only_test.Goals as goal

pub returns-in-Implication-clause-alike : goal.returns-in-Implication-clause-alike
returns-in-Implication-clause-alike c u v lu lv e =
    let x = c.args.constraint.now in
    let told : (w : List Sym) → length w ≡ c.args.width
    → has c.both_sides.result w ≡ (all_so Present x.left w && all_so Absent x.right w) = λ w l.
    c.both_sides.ensures.columns w l ∙ ap₂
    (λ a b. all_so Present a w && all_so Absent b w) c.as_slice-left.ensures.value c.as_slice-right.ensures.value
    in
    implication_alike x u v c.in-Implication.is c.requires.other (sym (told u lu) ∙ e ∙ told v lv)

pub returns-then-is_edge_among-clause-alike : goal.returns-then-is_edge_among-clause-alike
returns-then-is_edge_among-clause-alike c u v lu lv e =
    let x = c.args.constraint.now in
    let told : (w : List Sym) → length w ≡ c.args.width
    → has c.both_sides-then-is_edge_among.result w
    ≡ (all_so Present x.left w && all_so Present x.right w) = λ w l.
    c.both_sides-then-is_edge_among.ensures.columns w l
    ∙ ap₂ (λ a b. all_so Present a w && all_so Present b w) c.as_slice-left.ensures.value
    c.as_slice-right.ensures.value in
    edge_clash_alike x u v c.in-Clash.is c.requires.other
    (sym (ap₂ (λ (a b : List Event). has_edge_type
    (a ++ b)) c.as_slice-left.ensures.value c.as_slice-right.ensures.value) ∙ sym c.is_edge_among.ensures
    ∙ c.if-is_edge_among.true)
    (sym (told u lu) ∙ e ∙ told v lv)

pub returns-else-is_edge_among-clause-alike : goal.returns-else-is_edge_among-clause-alike
returns-else-is_edge_among-clause-alike c u v lu lv e =
    let x = c.args.constraint.now in
    let told : (w : List Sym) → length w ≡ c.args.width
    → has c.both_sides-else-is_edge_among.result w ≡ (all_so NoEdge x.left w && all_so NoEdge x.right w) = λ w l.
    c.both_sides-else-is_edge_among.ensures.columns w l
    ∙ ap₂ (λ a b. all_so NoEdge a w && all_so NoEdge b w) c.as_slice-left.ensures.value
    c.as_slice-right.ensures.value in
    inside_clash_alike x u v c.in-Clash.is c.requires.other
    (sym (ap₂ (λ (a b : List Event). has_edge_type
    (a ++ b)) c.as_slice-left.ensures.value c.as_slice-right.ensures.value) ∙ sym c.is_edge_among.ensures
    ∙ c.if-is_edge_among.false)
    (sym (told u lu) ∙ e ∙ told v lv)
