use Rattle.violation.proofs.FewerStages.{same_fewer}
use Rattle.kind_laws.proofs.GoingOn.{candidate_exchanged, optimal_exchanged, lower, rest, adds_rest, adds_alike}
use Rattle.kind_laws.proofs.exchange.prefixes_of_one_kind_go_on_alike.Goals as goal

pub returns-clause-candidate : goal.returns-clause-candidate
returns-clause-candidate c problem r stage p q v w a b same =
    candidate_exchanged problem r stage p q v w a b same

pub returns-clause-optimal : goal.returns-clause-optimal
returns-clause-optimal c problem r stage p q v w o u same = optimal_exchanged problem r stage p q v w o u same

pub returns-clause-some : goal.returns-clause-some
returns-clause-some c problem r stage ranked v w d =
    (rest problem r stage ranked v w, adds_rest problem r stage ranked v w d)

pub returns-clause-same : goal.returns-clause-same
returns-clause-same c problem r stage i ranked few p q v w a b same m adds =
    adds_alike problem i (lower problem i r few stage) ranked p q v w a b (same_fewer problem i r few p v same) m adds
