use Rattle.std.proofs.{Common.{rules, tests}, lemmas.Iterator.Search.all_from_yields_List}
use Rattle.std.proofs.lemmas.Iterator.Splits.{YieldsList-from_slice_split}
use Rattle.timeline_text.specs.Bytes.{is_space}
use Rattle.answer_reader.specs.Numbers.{is_run}
use Rattle.answer_reader.proofs.counts.are_runs.Goals as goal

pub returns : goal.returns
returns c = all_from_yields_List _ _ _ _ c.all.ensures.ran (YieldsList-from_slice_split _ _ _ c.split.ensures.rest
    c.split.ensures.done c.split.ensures.closure (λ x b q k. search (rules, tests))) (λ x b q k. search (rules, tests))
