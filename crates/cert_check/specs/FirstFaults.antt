-- Faults by their place, and the fault that comes first.
use Rattle.std.specs.Prelude.{ℕ, ◌≡◌, ◌⊎◌, List}
use Rattle.tier_core.specs.declared.sym.Sym.{Sym}
use Rattle.violation.specs.Problems.{Problem, problem_from}
use Rattle.grammar_reader.specs.declared.grammar.Grammar.{Grammar}
use Rattle.grammar_reader.specs.ShapeOf.{IsShapeOf}
use Rattle.tier_core.specs.declared.shape.Shape.{Shape}
use Rattle.answer_text.specs.declared.answer.Answer.{Answer}
use Rattle.answer_text.specs.Readable.{IsReadable}
use Rattle.cert_check.specs.declared.fault.Fault.{Fault}
use Rattle.cert_check.specs.declared.fault.Fault.TheVariants.{FormWrong, StageMissing, ExampleWrong, CountsDiffer, NodeWrong, StartMissing, FinalPotential, NotClosed, Potential, StartPotential, StateMissing, FinalsDiffer, ArcsTwice, ArcsDiffer}
use Rattle.cert_check.specs.Places.{IsBefore, at_form, at_stages, at_example, at_count, at_node, at_start, at_final, at_move, at_start_potential, at_first_state, at_target, at_mark, at_twice, at_arcs}
use Rattle.cert_check.specs.Faults.{HasWrongForm, LacksStage, HasWrongExample, HasWrongCount, HasWrongNode, LacksStart, HasFinalPotential, IsNotClosed, HasHighPotential, HasWrongStart, IsState, LacksTarget, HasWrongMark, HasTwice, HasWrongArcs}

-- Node 0 is not a state, or an arc of a state leads to a node that is not one.
abbrev pub LacksState : Answer → ℕ → ℕ → List ℕ → Type 0
LacksState answer state target place =
    ((state ≡ 0) × (target ≡ 0) × (IsState answer 0 → ⊥) × (place ≡ at_first_state))
    ⊎ ((arc : ℕ) × (LacksTarget answer state arc target × (place ≡ at_target state arc)))

-- A fault is in the answer at a place.
abbrev pub IsFault : Problem → Answer → Fault → List ℕ → Type 0
IsFault problem answer FormWrong place = HasWrongForm problem × (place ≡ at_form)
IsFault problem answer (StageMissing listed wanted) place = LacksStage problem answer listed wanted ×
    (place ≡ at_stages)
IsFault problem answer ExampleWrong place = HasWrongExample problem answer × (place ≡ at_example)
IsFault problem answer
    (CountsDiffer constraint listed counted) place = HasWrongCount problem answer constraint listed counted ×
    (place ≡ at_count constraint)
IsFault problem answer (NodeWrong stage node) place = HasWrongNode problem answer stage node ×
    (place ≡ at_node stage node)
IsFault problem answer (StartMissing stage) place = LacksStart problem answer stage × (place ≡ at_start stage)
IsFault problem answer (FinalPotential stage node listed) place = HasFinalPotential problem answer stage node listed ×
    (place ≡ at_final stage node)
IsFault problem answer (NotClosed stage node missing) place = (column : List Sym) ×
    (IsNotClosed problem answer stage node column missing × (place ≡ at_move stage node column))
IsFault problem answer (Potential stage node listed allowed) place = (column : List Sym) ×
    (HasHighPotential problem answer stage node column listed allowed × (place ≡ at_move stage node column))
IsFault problem answer (StartPotential stage listed count) place = HasWrongStart answer stage listed count ×
    (place ≡ at_start_potential stage)
IsFault problem answer (StateMissing state target) place = LacksState answer state target place
IsFault problem answer (FinalsDiffer state listed) place = HasWrongMark problem answer state listed ×
    (place ≡ at_mark state)
IsFault problem answer (ArcsTwice state column) place = HasTwice answer state column × (place ≡ at_twice state column)
IsFault problem answer
    (ArcsDiffer state column listed kept) place = HasWrongArcs problem answer state column listed kept ×
    (place ≡ at_arcs state column)

-- The fault comes first: it is in the answer, and no fault is in it at a place before.
pub record IsFirstFault (problem : Problem) (answer : Answer) (fault : Fault) : Type 0 where
  pub place : List ℕ
  pub is : IsFault problem answer fault place
  pub first : (other : Fault) (before : List ℕ) → IsFault problem answer other before → IsBefore before place → ⊥

-- No fault is in the answer.
abbrev pub IsFaultless : Problem → Answer → Type 0
IsFaultless problem answer = (fault : Fault) (place : List ℕ) → IsFault problem answer fault place → ⊥

-- what a grammar is asked by the form of an answer
abbrev pub asked_by : Grammar → Answer → Problem
asked_by grammar answer = problem_from grammar.tiers grammar.constraints.items answer.form

-- An answer is within the limits of what is read for a grammar.
pub record IsReadableFor (grammar : Grammar) (answer : Answer) : Type 0 where
  pub shape : Shape
  pub of_grammar : IsShapeOf grammar shape
  pub readable : IsReadable shape answer
