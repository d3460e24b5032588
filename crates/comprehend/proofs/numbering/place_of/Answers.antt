use Rattle.std.proofs.Common.{◌≡◌, Some, sym, ap, ◌∙◌}
use Rattle.std.specs.Prelude.{slice_get}
use Rattle.comprehend.proofs.Numbers.{found_at, found_nowhere, once_at}
use Rattle.comprehend.proofs.numbering.place_of.Goals as goal

pub returns-in-Some : goal.returns-in-Some
returns-in-Some c = λ place.
    (let keys = c.args.numbers.now.keys in
    let node = c.args.node in
    let at : slice_get keys c.in-Some.place
    ≡ Some node = found_at keys node c.in-Some.place (sym c.get_index_of.ensures.index ∙ c.in-Some.is) in (
      λ e. (let same : c.in-Some.place ≡ place = cc in ap (slice_get keys) (sym same) ∙ at),
      λ e. ap (λ x. Some x) (once_at keys node c.requires.once c.in-Some.place place at e),
    ))

pub returns-in-None : goal.returns-in-None
returns-in-None c = λ place.
    (let keys = c.args.numbers.now.keys in
    let node = c.args.node in (
      λ e. absurd (let f : ⊥ = cc in f),
      λ e. absurd (found_nowhere keys node place (sym c.get_index_of.ensures.index ∙ c.in-None.is) e),
    ))
