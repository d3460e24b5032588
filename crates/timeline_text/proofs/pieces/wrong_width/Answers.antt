use Rattle.std.proofs.{Common.{rules, tests, ◌==◌, not, length}, lemmas.Iterator.Search.position_from_yields_List}
use Rattle.std.proofs.lemmas.Iterator.Splits.{YieldsList-from_slice_split}
use Rattle.timeline_text.specs.Bytes.{is_space}
use Rattle.timeline_text.proofs.pieces.wrong_width.Goals as goal

pub returns : goal.returns
returns c = position_from_yields_List (λ piece. not (length piece == c.args.width)) _ _ _ c.position.ensures.ran
    (YieldsList-from_slice_split _ is_space c.args.bytes.now c.split.ensures.rest c.split.ensures.done
    c.split.ensures.closure (λ x b q k. search (rules, tests)))
    (λ x b q k. search (rules, tests))
