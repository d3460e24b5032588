-- Sound answers: what may be believed of an answer that is checked. It may list more kinds than a
-- right one, lower potentials at kinds that no optimal candidate passes, or another optimal example.
use Rattle.std.specs.Prelude.{ℕ, ◌≡◌, ◌≢◌, ◌≤◌, ◌↔◌, List, length, Contains, All, AllPairs}
use Rattle.tier_core.specs.declared.sym.Sym.{Sym}
use Rattle.tier_core.specs.declared.constraint.Constraint.{Constraint}
use Rattle.tier_core.specs.Classes.{sets_of, AreDisjoint}
use Rattle.tier_core.specs.Tiers.{Tiers}
use Rattle.tier_core.specs.Kinds.{PrefixKind}
use Rattle.violation.specs.Candidates.{IsOptimal, IsLeastVector}
use Rattle.violation.specs.Stages.{IsKindOfStage}
use Rattle.answer_text.specs.declared.automaton.ArcLine.{ArcLine}
use Rattle.answer_text.specs.declared.answer.Answer.{Answer}
use Rattle.answer_text.specs.Acceptance.{Accepts}
use Rattle.answer_text.specs.Right.{nodes_at, kinds_at, numbers_of}
use Rattle.violation.specs.Problems.{Problem, last_stage}

-- The arcs of one state: no column is in two of them, and each has the grammar's width and leads to a state.
pub record AreSoundArcs (width : ℕ) (states : List ℕ) (arcs : List ArcLine) : Type 0 where
  pub apart : AllPairs (λ a b. AreDisjoint a.class b.class) arcs
  pub one_width : All (λ arc. length (sets_of arc.class) ≡ width) arcs
  pub targets : All (λ arc. Contains states arc.target) arcs

-- An answer is sound for a problem: it is of the problem's form, its automaton accepts exactly the
-- optimal candidates, its counts are the least vector, its example is optimal, each stage lists every kind of the
-- stage, no state stands twice, and the arcs of each state are sound.
pub record IsSound (problem : Problem) (answer : Answer) : Type 0 where
  pub form : answer.form ≡ problem.form
  pub accepts : (T : List (List Sym)) → Accepts answer.automaton.states.items T ↔ IsOptimal problem T
  pub counts : IsLeastVector problem answer.counts.items
  pub example : IsOptimal problem answer.example
  pub each_kind : (r : ℕ) → r ≤ last_stage problem → (k : PrefixKind) → IsKindOfStage problem r k
      → Contains (kinds_at problem r (nodes_at answer.stages.items r)) k
  pub distinct : AllPairs (λ m n. m ≢ n) (numbers_of answer.automaton.states.items)
  pub arcs : All (λ state. AreSoundArcs problem.tiers.width
      (numbers_of answer.automaton.states.items) state.arcs.items) answer.automaton.states.items
