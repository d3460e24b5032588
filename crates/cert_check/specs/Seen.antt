-- What is seen of answers and of problems: what their texts say. How a list is kept in memory is not seen,
-- nor is a bit of a kind that no tier and no constraint of its stage has.
use Rattle.std.specs.Prelude.{ℕ, ◌≡◌, length, map}
use Rattle.grammar_reader.specs.Requirements.{requirements_seen}
use Rattle.violation.specs.Problems.{Problem}
use Rattle.answer_text.specs.declared.answer.Answer.{Answer}
use Rattle.answer_text.specs.Seen.{nodes_seen}
use Rattle.answer_text.specs.Values.{state_value}

-- Two answers are seen alike for a problem: they have the same form, counts and example, as many stages,
-- and nodes and states that are seen as the same.
pub record AreSeenAlike (problem : Problem) (answer other : Answer) : Type 0 where
  pub form : answer.form ≡ other.form
  pub counts : answer.counts.items ≡ other.counts.items
  pub example : answer.example ≡ other.example
  pub stages : length answer.stages.items ≡ length other.stages.items
  pub nodes : (r : ℕ) → nodes_seen problem answer.stages.items r ≡ nodes_seen problem other.stages.items r
  pub states : map state_value answer.automaton.states.items ≡ map state_value other.automaton.states.items

-- Two problems are asked alike: they have the same tiers and the same form, and constraints with the same
-- families and sides, in the same order. Names have no part in it.
pub record AreAskedAlike (problem other : Problem) : Type 0 where
  pub tiers : problem.tiers ≡ other.tiers
  pub constraints : requirements_seen problem.constraints ≡ requirements_seen other.constraints
  pub form : problem.form ≡ other.form
