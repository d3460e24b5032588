use Rattle.kind_laws.proofs.{Conjunctions.{implication_alike, clash_alike}, Repeats.{repeated_left, repeated_right}}
use Rattle.kind_laws.proofs.types.repeated_types_change_no_count.Goals as goal

pub returns-clause-implication : goal.returns-clause-implication
returns-clause-implication c left right others more T a b s r =
    implication_alike left right others more T a b s.each r.each

pub returns-clause-clash : goal.returns-clause-clash
returns-clause-clash c left right others more T a b s = clash_alike left right others more T a b s.each

pub returns-clause-on_the_left : goal.returns-clause-on_the_left
returns-clause-on_the_left c family e left right T a i = repeated_left e left right T a family i

pub returns-clause-on_the_right : goal.returns-clause-on_the_right
returns-clause-on_the_right c family e left right T a i = repeated_right e left right T a family i
