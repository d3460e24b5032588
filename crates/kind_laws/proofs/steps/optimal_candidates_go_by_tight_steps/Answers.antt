use Rattle.std.proofs.Common.{◌-◌, arith}
use Rattle.violation.proofs.StageLemmas.{optimal_for_fewer}
use Rattle.kind_laws.proofs.Tight.{tight_from_optimal, optimal_from_tight}
use Rattle.kind_laws.proofs.steps.optimal_candidates_go_by_tight_steps.Goals as goal

pub returns : goal.returns
returns c problem r stage ranked T = (
  λ o. (optimal_for_fewer problem (r - 1) r (omega arith) T o, tight_from_optimal problem r stage ranked T o),
  λ h. optimal_from_tight problem r stage ranked T h.0 h.1,
)
