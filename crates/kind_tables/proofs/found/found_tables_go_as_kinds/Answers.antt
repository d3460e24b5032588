use Rattle.kind_tables.proofs.Exploring.{found_named, found_on_runs, same_words}
use Rattle.kind_tables.proofs.found.found_tables_go_as_kinds.Goals as goal

pub returns-clause-named : goal.returns-clause-named
returns-clause-named c problem r n names pruned further stage named bases kinds found from = found_named problem r n
    further names pruned named stage bases kinds found from

pub returns-clause-words : goal.returns-clause-words
returns-clause-words c problem r n names pruned further stage named bases kinds found from = same_words problem r n
    further names pruned named stage bases kinds found from

pub returns-clause-on_runs : goal.returns-clause-on_runs
returns-clause-on_runs c problem r n names pruned further stage named bases kinds found from = found_on_runs problem r
    n further names pruned named stage bases kinds found from
