-- The parts of an answer in which a checker looks for faults, one after the other: a number of a part,
-- what is wrong there, and the rest of its place.
use Rattle.std.specs.Prelude.{ℕ, zero, suc, ◌+◌, ◌≡◌, ◌≤◌, ◌⊎◌, Bool, Option, List, [], ◌∷◌, length}
use Rattle.tier_core.specs.declared.sym.Sym.{Sym}
use Rattle.tier_core.specs.declared.kind.Kind.{Kind}
use Rattle.violation.specs.Candidates.{IsForm, IsCandidate, counts_on}
use Rattle.violation.specs.Problems.{Problem, last_stage, last_place}
use Rattle.answer_text.specs.declared.answer.Answer.{Answer}
use Rattle.cert_check.specs.declared.fault.Fault.{Fault}
use Rattle.cert_check.specs.Places.{IsBefore, in_stage, in_state, column_place}
use Rattle.cert_check.specs.Faults.{HasWrongForm, LacksStage, HasWrongExample, HasWrongCount, HasWrongNode, LacksStart, HasFinalPotential, IsNotClosed, HasHighPotential, HasWrongStart, IsState, LacksTarget, HasWrongMark, HasTwice, HasWrongArcs}
use Rattle.cert_check.specs.FirstFaults.{IsFault}

-- what may be wrong with the move of a node on a column
abbrev pub IsWrongMove : Problem → Answer → ℕ → ℕ → List Sym → Type 0
IsWrongMove problem answer stage node column =
    ((missing : Kind) × IsNotClosed problem answer stage node column missing)
    ⊎ ((listed : ℕ) × ((allowed : ℕ) × HasHighPotential problem answer stage node column listed allowed))

-- in a node of a stage: its potential, and its moves
abbrev pub InNode : Problem → Answer → ℕ → ℕ → ℕ → List ℕ → Type 0
InNode problem answer stage node zero rest = (listed : ℕ) ×
    (HasFinalPotential problem answer stage node listed × (rest ≡ []))
InNode problem answer stage node (suc zero) rest = (column : List Sym) ×
    (IsWrongMove problem answer stage node column × (rest ≡ column_place column))
InNode problem answer stage node (suc (suc n)) rest = ⊥

-- in a stage: the order of the nodes, the start, each node, and the start's potential
abbrev pub InStage : Problem → Answer → ℕ → ℕ → List ℕ → Type 0
InStage problem answer stage zero rest = (node : ℕ) × (HasWrongNode problem answer stage node × (rest ≡ node ∷ []))
InStage problem answer stage (suc zero) rest = LacksStart problem answer stage × (rest ≡ [])
InStage problem answer stage (suc (suc zero)) rest = (node : ℕ) ×
    ((part : ℕ) × ((place : List ℕ) × (InNode problem answer stage node part place × (rest ≡ node ∷ part ∷ place))))
InStage problem answer stage (suc (suc (suc zero))) rest = (listed : ℕ) ×
    ((count : ℕ) × (HasWrongStart answer stage listed count × (rest ≡ [])))
InStage problem answer stage (suc (suc (suc (suc n)))) rest = ⊥

-- in a state: the targets of its arcs, its mark, the columns that stand twice, and all columns
abbrev pub InState : Problem → Answer → ℕ → ℕ → List ℕ → Type 0
InState problem answer state zero rest = (arc : ℕ) ×
    ((target : ℕ) × (LacksTarget answer state arc target × (rest ≡ arc ∷ [])))
InState problem answer state (suc zero) rest = (listed : Bool) ×
    (HasWrongMark problem answer state listed × (rest ≡ []))
InState problem answer state (suc (suc zero)) rest = (column : List Sym) ×
    (HasTwice answer state column × (rest ≡ column_place column))
InState problem answer state (suc (suc (suc zero))) rest =
    (column : List Sym) × ((listed : Option ℕ) ×
    ((kept : Option ℕ) × (HasWrongArcs problem answer state column listed kept × (rest ≡ column_place column))))
InState problem answer state (suc (suc (suc (suc n)))) rest = ⊥

-- in an answer: the form, the numbers of stages and counts, the example, the counts, each stage, the
-- start of the automaton, and each state
abbrev pub InAnswer : Problem → Answer → ℕ → List ℕ → Type 0
InAnswer problem answer zero rest = HasWrongForm problem × (rest ≡ [])
InAnswer problem answer (suc zero) rest = (listed : ℕ) ×
    ((wanted : ℕ) × (LacksStage problem answer listed wanted × (rest ≡ [])))
InAnswer problem answer (suc (suc zero)) rest = HasWrongExample problem answer × (rest ≡ [])
InAnswer problem answer (suc (suc (suc zero))) rest =
    (constraint : ℕ) × ((listed : ℕ) × ((counted : ℕ) ×
    (HasWrongCount problem answer constraint listed counted × (rest ≡ constraint ∷ []))))
InAnswer problem answer (suc (suc (suc (suc zero)))) rest = (stage : ℕ) ×
    ((part : ℕ) × ((place : List ℕ) × (InStage problem answer stage part place × (rest ≡ stage ∷ part ∷ place))))
InAnswer problem answer (suc (suc (suc (suc (suc zero))))) rest = (IsState answer 0 → ⊥) × (rest ≡ [])
InAnswer problem answer (suc (suc (suc (suc (suc (suc zero)))))) rest = (state : ℕ) ×
    ((part : ℕ) × ((place : List ℕ) × (InState problem answer state part place × (rest ≡ state ∷ part ∷ place))))
InAnswer problem answer (suc (suc (suc (suc (suc (suc (suc n))))))) rest = ⊥

-- Before a place nothing is wrong.
abbrev pub IsNoneBefore : (ℕ → List ℕ → Type 0) → List ℕ → Type 0
IsNoneBefore wrong place = (part : ℕ) (rest : List ℕ) → wrong part rest → IsBefore (part ∷ rest) place → ⊥

-- A fault comes first in a stage.
pub record IsFirstInStage (problem : Problem) (answer : Answer) (stage : ℕ) (fault : Fault) : Type 0 where
  pub place : List ℕ
  pub is : IsFault problem answer fault (in_stage stage place)
  pub first : IsNoneBefore (InStage problem answer stage) place

-- A fault comes first in a state.
pub record IsFirstInState (problem : Problem) (answer : Answer) (state : ℕ) (fault : Fault) : Type 0 where
  pub place : List ℕ
  pub is : IsFault problem answer fault (in_state state place)
  pub first : IsNoneBefore (InState problem answer state) place

-- Nothing is wrong with the form, the numbers of stages and counts, the example and its counts.
pub record HasRightHead (problem : Problem) (answer : Answer) : Type 0 where
  pub form : IsForm problem.tiers problem.form
  pub short : last_place problem ≤ 64
  pub stage_count : length answer.stages.items ≡ last_stage problem + 1
  pub example : IsCandidate problem answer.example
  pub counts : answer.counts.items ≡ counts_on problem answer.example
