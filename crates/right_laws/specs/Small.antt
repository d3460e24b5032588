-- Small answers: those whose numbers are bounded by how many kinds they list.
use Rattle.std.specs.Prelude.{ℕ, ◌<◌, ◌≤◌, length, All}
use Rattle.answer_text.specs.declared.answer.Answer.{Answer}
use Rattle.answer_text.specs.Right.{nodes_at}
use Rattle.violation.specs.Problems.{Problem, last_place, last_stage}

-- An answer is small for a problem: no count is more than the columns of the example; the example has
-- fewer columns than the automaton has states, and this no more states than the last stage has nodes; and
-- each place is in the form, and each potential less than the number of the nodes of its stage.
pub record IsSmall (problem : Problem) (answer : Answer) : Type 0 where
  pub counts : All (λ n. n ≤ length answer.example) answer.counts.items
  pub example : length answer.example < length answer.automaton.states.items
  pub states : length answer.automaton.states.items ≤ length (nodes_at answer.stages.items (last_stage problem))
  pub places : (r : ℕ) → r ≤ last_stage problem
      → All (λ node. node.kind.place ≤ last_place problem) (nodes_at answer.stages.items r)
  pub potentials : (r : ℕ) → r ≤ last_stage problem
      → All (λ node. node.potential < length (nodes_at answer.stages.items r)) (nodes_at answer.stages.items r)
