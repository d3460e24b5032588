use Rattle.std.proofs.Common.{◌≡◌, ℕ, ◌∙◌, List, [], ap, length, arith, subst, IfOk}
use Rattle.tier_core.specs.{declared.sym.Sym.Sym, declared.event.Event.Event}
use Rattle.definition_tests.specs.Counting.{counted_after}
use Rattle.definition_tests.proofs.ChoiceSteps.{counted_from_nothing}
use Rattle.definition_tests.proofs.choices.counted_by_choices.Goals as goal

pub counted_from-requires-clause-few : goal.counted_from-requires-clause-few
counted_from-requires-clause-few c = omega (arith, ap length c.deref.ensures.value, c.in_ok-types.ensures.few)

pub returns : goal.returns
returns c =
    let family = c.args.constraint.now.family in
    let left : List Event = c.args.constraint.now.left in
    let right : List Event = c.args.constraint.now.right in
    let T : List (List Sym) = c.args.timeline.now in
    subst (λ (n : ℕ). IfOk c.counted_from.result (λ count. count ≡ n))
    (ap (λ (r : List Event). counted_after family r c.columns.result.now [] c.deref.result.now) c.as_slice.ensures.value
    ∙ ap (λ (U : List (List Sym)). counted_after family right U [] c.deref.result.now) c.columns.ensures
    ∙ ap (counted_after family right T []) (c.deref.ensures.value ∙ c.in_ok-types.ensures.types)
    ∙ counted_from_nothing family left right T)
    c.counted_from.ensures
