use Rattle.std.proofs.Common.{◌&&◌, ◌++◌, IsTrue, not, List, length, ap, ◌∙◌, refl}
use Rattle.std.proofs.{lemmas.List.drop_at, lemmas.List.Elements.All-drop}
use Rattle.tier_core.specs.{declared.class.Class.Class, Classes.{sets_of, has}, Filled.is_filled}
use Rattle.symbol_class.specs.Held.{some_has}
use Rattle.cert_check.proofs.Gathering.{adds_more}
use Rattle.cert_check.proofs.differing.push_rest.Goals as goal

pub split-requires : goal.split-requires
split-requires c =
    let width = length (sets_of c.args.arc.now.class) in
    rw c.deref.ensures.value (c.in-Ok.ensures.width width c.requires)

pub returns-in-Ok-extend_from_slice : goal.returns-in-Ok-extend_from_slice
returns-in-Ok-extend_from_slice c =
    let inside = c.in_ok-parts.parts.inside.items in
    let outside = c.in_ok-parts.parts.outside.items in
    adds_more _ _ _ _ (c.in-Ok-extend_from_slice.ensures.items ∙ ap (λ (xs : List Class). c.args.pieces.now.items ++ xs)
    c.as_slice.ensures.value) (rw (drop_at inside outside (length inside) refl) at (All-drop
    (λ (class : Class). IsTrue (is_filled class)) (length inside) (inside ++ outside)
    c.in_ok-parts.ensures.pieces.filled)) (λ column. c.in_ok-parts.ensures.outside column ∙ ap
    (λ b. has c.args.arc.now.class column && not b)
    (ap (λ (xs : List Class). some_has xs column) c.deref.ensures.value ∙ c.in-Ok.ensures.columns column))
