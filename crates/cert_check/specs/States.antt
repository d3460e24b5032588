-- What is known of an answer when its states are looked at, and what is right of a state.
use Rattle.std.specs.Prelude.{ℕ, ◌≡◌, ◌≤◌, ◌<◌, ◌↔◌, Option, List, length, All, Contains}
use Rattle.tier_core.specs.declared.sym.Sym.{Sym}
use Rattle.tier_core.specs.Classes.{sets_of}
use Rattle.tier_core.specs.Kinds.{PrefixKind}
use Rattle.violation.specs.Prefixes.{kind_of_bits}
use Rattle.violation.specs.Problems.{Problem, last_stage}
use Rattle.answer_text.specs.declared.answer.Answer.{Answer}
use Rattle.answer_text.specs.declared.automaton.ArcLine.{ArcLine}
use Rattle.answer_text.specs.declared.automaton.StateLine.{StateLine}
use Rattle.answer_text.specs.declared.stage.Node.{Node}
use Rattle.cert_check.specs.declared.subject.Subject.{Subject}
use Rattle.cert_check.specs.Faults.{HasNode, IsListedTarget, IsKeptTarget}
use Rattle.cert_check.specs.Parts.{InState, InAnswer}
use Rattle.cert_check.specs.Subjects.{IsReady, problem_of}

-- nothing is wrong in any part of the answer before the automaton
abbrev pub AreRightBefore : Problem → Answer → Type 0
AreRightBefore problem answer = (part : ℕ) → part < 5 → (rest : List ℕ) → InAnswer problem answer part rest → ⊥

-- nothing is wrong in the automaton
abbrev pub IsRightFrom : Problem → Answer → Type 0
IsRightFrom problem answer = (part : ℕ) → 5 ≤ part → (rest : List ℕ) → InAnswer problem answer part rest → ⊥

-- The numbers of an answer fit, and nothing is wrong before its automaton.
pub record IsRightBeforeStates (s : Subject) : Type 0 where
  pub ready : IsReady s
  pub right : AreRightBefore (problem_of s) s.answer.now

-- A state of an answer, and its node in the last stage.
pub record IsStateAt (s : Subject) (state : StateLine) (node : Node) : Type 0 where
  pub listed : Contains s.answer.now.automaton.states.items state
  pub is : HasNode s.answer.now (last_stage (problem_of s)) state.node node

-- the kind of a node of the last stage
abbrev pub last_kind : Subject → Node → PrefixKind
last_kind s node = kind_of_bits (problem_of s) (last_stage (problem_of s)) node.kind

-- nothing is wrong in a part of a state
abbrev pub IsRightPartOf : Problem → Answer → ℕ → ℕ → Type 0
IsRightPartOf problem answer state part = (rest : List ℕ) → InState problem answer state part rest → ⊥

-- nothing is wrong in a state
abbrev pub IsRightState : Problem → Answer → ℕ → Type 0
IsRightState problem answer state = (part : ℕ) (rest : List ℕ) → InState problem answer state part rest → ⊥

-- Arcs lead, on each column, where the move of a kind leads that is kept at the end.
pub record AreKeptArcs (problem : Problem) (answer : Answer) (k : PrefixKind) (arcs : List ArcLine) : Type 0 where
  pub one_width : All (λ arc. length (sets_of arc.class) ≡ problem.tiers.width) arcs
  pub targets : (column : List Sym) (target : Option ℕ) → IsListedTarget arcs column target
      ↔ IsKeptTarget problem answer k column target
