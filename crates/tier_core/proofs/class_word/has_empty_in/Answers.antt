use Rattle.std.proofs.{Common.{◌==◌, not, ap}, lemmas.Bool.{eqb-false, ne_eqb, not-true}}
use Rattle.tier_core.proofs.EmptySets.{empty_in, empty_from, some_empty}
use Rattle.tier_core.proofs.class_word.has_empty_in.Goals as goal

pub returns : goal.returns
returns c =
    let word = c.args.word in
    let width = c.args.width in (
      λ found. some_empty word width c.ranges.word.fits c.requires.few
          (eqb-false (empty_in word width) 0 (not-true (empty_in word width == 0) found)),
      λ tier. ap not (ne_eqb (empty_in word width) 0
          (empty_from word width c.ranges.word.fits c.requires.few tier.0 tier.1 tier.2)),
    )
