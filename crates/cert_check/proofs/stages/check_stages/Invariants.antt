use Rattle.std.proofs.Common.{ℕ, ◌-◌, ◌<◌, ◌≤◌}
use Rattle.cert_check.specs.{Left.AreLeftAt, Nodes.IsFaultlessStage, Subjects.{AscendsAt, problem_of}}
use Rattle.cert_check.proofs.stages.check_stages.Given as goal

abbrev pub invariant-loop-stage : goal.invariant-loop-stage
invariant-loop-stage l = record {
  right : (r : ℕ) → r < l.stage → IsFaultlessStage (problem_of l.subject) l.subject.answer.now r;
  before : 1 ≤ l.stage → AscendsAt l.subject (l.stage - 1) × AreLeftAt l.subject (l.stage - 1) l.left.items;
}
