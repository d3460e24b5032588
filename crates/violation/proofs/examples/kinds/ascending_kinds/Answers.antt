use Rattle.std.specs.{Prelude.refl, List.Sorted.IsStrictlySortedBy}
use Rattle.violation.proofs.examples.kinds.ascending_kinds.Goals as goal

pub returns : goal.returns
unfolding IsStrictlySortedBy
returns c = (
  (refl, (refl, (refl, (refl, (refl, (refl, (refl, tt))))))),
  (
    (refl, (refl, (refl, (refl, (refl, (refl, tt)))))),
    (
      (refl, (refl, (refl, (refl, (refl, tt))))),
      (
        (refl, (refl, (refl, (refl, tt)))),
        ((refl, (refl, (refl, tt))), ((refl, (refl, tt)), ((refl, tt), (tt, tt)))),
      ),
    ),
  ),
)
