use Rattle.std.proofs.Common.{ℕ, ◌<◌}
use Rattle.cert_check.specs.{Left.AreLeftOfFirst, Nodes.IsRightNode, Subjects.problem_of}
use Rattle.cert_check.proofs.stage_check.check_nodes.Given as goal

abbrev pub invariant-loop-number : goal.invariant-loop-number
invariant-loop-number l = record {
  right : (n : ℕ) → n < l.number → IsRightNode (problem_of l.subject) l.subject.answer.now l.stage n;
  left : AreLeftOfFirst l.subject l.stage l.number l.left.items;
}
