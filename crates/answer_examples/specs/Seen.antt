-- What an answer says, as plain lists.
use Rattle.std.specs.Prelude.{ℕ, ◌≡◌, List, [], length, map, slice_index_or}
use Rattle.tier_core.specs.declared.sym.Sym.{Sym}
use Rattle.tier_core.specs.Kinds.{PrefixKind}
use Rattle.violation.specs.Problems.{Problem}
use Rattle.answer_text.specs.declared.answer.Answer.{Answer}
use Rattle.answer_text.specs.Seen.{nodes_seen}
use Rattle.answer_text.specs.Values.{NodeValue, StateValue, state_value}

abbrev pub node_of : PrefixKind → ℕ → NodeValue
node_of kind potential = record { kind = kind; potential = potential }

-- An answer to the form of a problem has these counts, this example, these nodes of its stages and
-- these states.
pub record IsSeenAs (problem : Problem) (answer : Answer) (counts : List ℕ)
    (example : List (List Sym)) (stages : List (List NodeValue))
    (states : List StateValue) : Type 0 where
  pub form_is : answer.form ≡ problem.form
  pub counts_are : answer.counts.items ≡ counts
  pub example_is : answer.example ≡ example
  pub stage_count : length answer.stages.items ≡ length stages
  pub nodes_are : (r : ℕ) → nodes_seen problem answer.stages.items r ≡ slice_index_or stages r []
  pub states_are : map state_value answer.automaton.states.items ≡ states
