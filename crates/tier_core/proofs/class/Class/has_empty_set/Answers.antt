use Rattle.std.proofs.Common.{◌<◌, ◌∙◌, length, sym, arith}
use Rattle.tier_core.specs.Classes.{sets_of}
use Rattle.tier_core.proofs.ClassSets.{set_is}
use Rattle.tier_core.proofs.class.Class.has_empty_set.Goals as goal

pub returns : goal.returns
returns c =
    let class = c.args.self.now in (
      λ found. let empty = c.has_empty_in.ensures.0 found in let inside : empty.0 < length (sets_of class) = omega
          (arith, empty.1, c.width.ensures.value) in (empty.0, inside, set_is class empty.0 inside ∙ empty.2),
      λ empty. c.has_empty_in.ensures.1 (
        empty.0,
        omega (arith, empty.1, c.width.ensures.value),
        sym (set_is class empty.0 empty.1) ∙ empty.2,
      ),
    )
