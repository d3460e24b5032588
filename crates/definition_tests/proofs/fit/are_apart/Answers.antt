use Rattle.std.proofs.{Common.{◌≡◌, false, get_or, sym, ap, ◌∙◌}, lemmas.Bool.not-true}
use Rattle.std.specs.List.{list_any}
use Rattle.tier_core.specs.{Symbols.symbols, Classes.sets_of}
use Rattle.definition_tests.specs.Fit.{in_both}
use Rattle.definition_tests.proofs.Sets.{disjoint_by_first}
use Rattle.definition_tests.proofs.fit.are_apart.Goals as goal

pub returns : goal.returns
returns c free column h k =
    let none : c.meet.result ≡ false = not-true c.meet.result free in
    disjoint_by_first (sets_of c.args.a.now) (sets_of c.args.b.now) column
    (sym c.width.ensures.value ∙ c.if-width-ne1.false)
    (sym c.width-else-width-ne1.ensures.value ∙ c.if-width-ne1-2.false)
    (ap (λ x. list_any (in_both x (get_or (sets_of c.args.b.now) 0 0)) symbols) (sym c.bits.ensures.value)
    ∙ (ap (λ y. list_any (in_both c.bits.result y) symbols) (sym c.bits-2.ensures.value)
    ∙ (sym c.meet.ensures ∙ none))) h k
