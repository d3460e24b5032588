-- The faults of one node: of its potential, and of its moves.
use Rattle.std.specs.Prelude.{ℕ, ◌<◌, ◌≤◌, ◌⊎◌, IsTrue, List, ◌∷◌, length, slice_index_or}
use Rattle.tier_core.specs.declared.sym.Sym.{Sym}
use Rattle.tier_core.specs.declared.class.Class.{Class}
use Rattle.tier_core.specs.Classes.{has}
use Rattle.tier_core.specs.FirstColumn.{first_column}
use Rattle.violation.specs.Problems.{Problem}
use Rattle.answer_text.specs.declared.answer.Answer.{Answer}
use Rattle.cert_check.specs.declared.fault.Fault.{Fault}
use Rattle.cert_check.specs.FirstFaults.{IsFault}
use Rattle.cert_check.specs.Parts.{InNode, InStage, IsNoneBefore, IsWrongMove}
use Rattle.cert_check.specs.Places.{IsBefore, at_move, column_place, in_stage}

-- nothing is wrong in a node
abbrev pub IsRightNode : Problem → Answer → ℕ → ℕ → Type 0
IsRightNode problem answer stage node = (part : ℕ) (rest : List ℕ) → InNode problem answer stage node part rest → ⊥

-- nothing is wrong in a part of a node
abbrev pub IsRightPart : Problem → Answer → ℕ → ℕ → ℕ → Type 0
IsRightPart problem answer stage node part = (rest : List ℕ) → InNode problem answer stage node part rest → ⊥

-- The fault comes first in a node.
pub record IsFirstInNode (problem : Problem) (answer : Answer) (stage node : ℕ) (fault : Fault) : Type 0 where
  pub place : List ℕ
  pub is : IsFault problem answer fault (in_stage stage (2 ∷ node ∷ place))
  pub first : IsNoneBefore (InNode problem answer stage node) place

-- the move of a node on each column of a class is wrong, and so this fault is in the answer there
abbrev pub IsMoveFault : Problem → Answer → ℕ → ℕ → Class → Fault → Type 0
IsMoveFault problem answer stage node class fault = (column : List Sym) → IsTrue (has class column)
    → IsWrongMove problem answer stage node column × IsFault problem answer fault (at_move stage node column)

-- the moves of a node on all columns of a class are wrong
abbrev pub AreWrongOn : Problem → Answer → ℕ → ℕ → Class → Type 0
AreWrongOn problem answer stage node class = (column : List Sym) → IsTrue (has class column)
    → IsWrongMove problem answer stage node column

-- nothing is wrong with the move of a node on any column of a class
abbrev pub AreRightOn : Problem → Answer → ℕ → ℕ → Class → Type 0
AreRightOn problem answer stage node class = (column : List Sym) → IsTrue (has class column)
    → IsWrongMove problem answer stage node column → ⊥

-- the least column of one class does not come after that of another
abbrev pub IsNotAfter : Class → Class → Type 0
IsNotAfter class other = IsBefore (column_place (first_column other)) (column_place (first_column class)) → ⊥

-- Of the first classes of a list, one with wrong moves is chosen whose least column comes first: on
-- each of them nothing is wrong, or its least column does not come before that of the chosen one. If
-- the chosen number is that of all classes, none is chosen.
pub record IsLeastWrong (problem : Problem) (answer : Answer) (stage node : ℕ) (classes : List Class)
    (count best : ℕ) : Type 0 where
  pub within : best ≤ length classes
  pub wrong : (class : Class) → best < length classes → AreWrongOn problem answer stage node
      (slice_index_or classes best class)
  pub others : (n : ℕ) (class : Class) → n < count
      → AreRightOn problem answer stage node (slice_index_or classes n class)
      ⊎ ((best < length classes) × IsNotAfter (slice_index_or classes best class) (slice_index_or classes n class))

-- nothing is wrong in a stage
abbrev pub IsFaultlessStage : Problem → Answer → ℕ → Type 0
IsFaultlessStage problem answer stage = (part : ℕ) (rest : List ℕ) → InStage problem answer stage part rest → ⊥
