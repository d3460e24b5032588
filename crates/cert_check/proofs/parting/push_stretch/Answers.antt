use Rattle.std.proofs.Common.{◌++◌, ◌∷◌, [], List, sym, ap, ◌∙◌}
use Rattle.tier_core.specs.declared.class.Class.{Class}
use Rattle.cert_check.specs.{declared.boxes.Asked.TheVariants.{Absent, Open, NotInside, NoEdge}}
use Rattle.cert_check.proofs.TestLemmas.{all_so, stretch_alike, adds_four}
use Rattle.cert_check.proofs.parting.push_stretch.Goals as goal

pub returns : goal.returns
returns c =
    let x = c.args.constraint.now in
    let more : List Class → Class → List Class = λ xs t. xs ++ t ∷ [] in
    let all =
    c.in_ok-push-4.ensures.items ∙ ap (λ xs. more xs c.box_of-4.result)
    (c.in_ok-push-3.ensures.items ∙ ap (λ xs. more xs c.box_of-3.result)
    (c.in_ok-push-2.ensures.items ∙ ap (λ xs. more xs c.box_of-2.result) c.in_ok-push.ensures.items)) in
    adds_four _ _ _ _ _ _ _ _ all c.box_of.ensures.width c.box_of-2.ensures.width c.box_of-3.ensures.width
    c.box_of-4.ensures.width (λ u v lu lv e f g h. stretch_alike x u v c.requires.stretch (ap (λ a. all_so Open a u)
    (sym c.as_slice-left.ensures.value) ∙ sym (c.box_of.ensures.columns u lu) ∙ e ∙ c.box_of.ensures.columns v lv ∙ ap
    (λ a. all_so Open a v) c.as_slice-left.ensures.value) (ap (λ a. all_so NoEdge a u)
    (sym c.as_slice-left.ensures.value) ∙ sym (c.box_of-2.ensures.columns u lu) ∙ f ∙ c.box_of-2.ensures.columns v lv ∙
    ap (λ a. all_so NoEdge a v) c.as_slice-left.ensures.value) (ap (λ a. all_so Absent a u)
    (sym c.as_slice-right.ensures.value) ∙ sym (c.box_of-3.ensures.columns u lu) ∙ g ∙ c.box_of-3.ensures.columns v lv ∙
    ap (λ a. all_so Absent a v) c.as_slice-right.ensures.value) (ap (λ a. all_so NotInside a u)
    (sym c.as_slice-right.ensures.value) ∙ sym (c.box_of-4.ensures.columns u lu) ∙ h ∙ c.box_of-4.ensures.columns v lv ∙
    ap (λ a. all_so NotInside a v) c.as_slice-right.ensures.value))
