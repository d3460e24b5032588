use Rattle.std.proofs.{Common.{rules, tests, ◌==◌, ◌∙◌}, lemmas.Iterator.YieldsList-from_slice}
use Rattle.std.proofs.lemmas.Iterator.Search.{find_from_yields_List}
use Rattle.timeline_text.proofs.spelled.letter_of.Goals as goal

pub returns : goal.returns
returns c = c.copied.ensures ∙ find_from_yields_List (λ letter. letter.byte == c.args.byte) _ _ _ c.find.ensures.ran
    (YieldsList-from_slice c.args.letters.now cc) (λ x b q k. search (rules, tests))
