use Rattle.kind_laws.proofs.KindsFew.{kinds_few, all_few}
use Rattle.kind_laws.proofs.few.stages_have_few_kinds.Goals as goal

pub returns-clause-of_stage : goal.returns-clause-of_stage
returns-clause-of_stage c problem r stage ks are = kinds_few problem r stage ks are

pub returns-clause-of_all : goal.returns-clause-of_all
returns-clause-of_all c problem r stage ks are = all_few problem r stage ks are
