use Rattle.kind_tables.proofs.{Complete.{complete_words, complete_on_runs}, Following.first_table}
use Rattle.kind_tables.proofs.first.complete_tables_accept_the_candidates.Goals as goal

pub returns-clause-words : goal.returns-clause-words
returns-clause-words c problem r names states stage named all = complete_words problem r stage names states named all

pub returns-clause-on_runs : goal.returns-clause-on_runs
returns-clause-on_runs c problem r names states stage named all reached = complete_on_runs problem r stage names
    states named all reached

pub returns-clause-first : goal.returns-clause-first
returns-clause-first c problem names states stage named weighed all reached =
    first_table problem names states named weighed (complete_words problem 0 stage names states named all)
    (complete_on_runs problem 0 stage names states named all reached)
