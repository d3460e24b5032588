-- What the words of a command ask for: names of files, and forms, timelines and surfaces, which are texts.
use Rattle.std.specs.Prelude.{◌≡◌, ℕ, ◌≤◌, List, [], ◌∷◌, ◌++◌, codes, Option, Some, None}
use Rattle.std.specs.Fmt.{decimal}

pub data Command : Type 0 where
  canon : List ℕ → Command
  score : List ℕ → List ℕ → Command
  generate : List ℕ → List ℕ → ℕ → Command
  show : List ℕ → List ℕ → ℕ → Command
  tableau : List ℕ → List ℕ → List ℕ → ℕ → Command
  once : List ℕ → List ℕ → ℕ → Command
  comprehend : List ℕ → List ℕ → List ℕ → ℕ → Command
  check : List ℕ → List ℕ → Command
  sample : ℕ → Command

-- a word is this number in decimal, which is from 1 to a greatest one
abbrev pub IsNumber : ℕ → List ℕ → ℕ → Type 0
IsNumber most word number = (word ≡ decimal number) × ((1 ≤ number) × (number ≤ most))

-- the words at the end: none, for the default budget, or the budget in decimal
abbrev pub IsBudget : List (List ℕ) → ℕ → Type 0
IsBudget [] budget = budget ≡ 20000
IsBudget (word ∷ []) budget = IsNumber 65536 word budget
IsBudget (word ∷ other ∷ words) budget = ⊥

-- the words are these, and perhaps a budget behind them
pub record HasBudget (words front : List (List ℕ)) (budget : ℕ) : Type 0 where
  pub rest : List (List ℕ)
  pub are : words ≡ front ++ rest
  pub budgeted : IsBudget rest budget

-- the words are the name of a command and a number
pub record IsNameAndNumber (words : List (List ℕ)) (name : List ℕ) (most number : ℕ) : Type 0 where
  pub word : List ℕ
  pub are : words ≡ name ∷ word ∷ []
  pub is_number : IsNumber most word number

-- the words are those of the command
abbrev pub IsCommand : List (List ℕ) → Command → Type 0
IsCommand words (canon g) = words ≡ codes "canon" ∷ g ∷ []
IsCommand words (score g t) = words ≡ codes "score" ∷ g ∷ t ∷ []
IsCommand words (generate g f b) = HasBudget words (codes "generate" ∷ g ∷ f ∷ []) b
IsCommand words (show g f b) = HasBudget words (codes "show" ∷ g ∷ f ∷ []) b
IsCommand words (tableau g f r b) = HasBudget words (codes "tableau" ∷ g ∷ f ∷ r ∷ []) b
IsCommand words (once g f b) = HasBudget words (codes "once" ∷ g ∷ f ∷ []) b
IsCommand words (comprehend g l s b) = HasBudget words (codes "comprehend" ∷ g ∷ l ∷ s ∷ []) b
IsCommand words (check g a) = words ≡ codes "check" ∷ g ∷ a ∷ []
IsCommand words (sample n) = IsNameAndNumber words (codes "sample") 63 n

-- the words are those of no command
abbrev pub IsNoCommand : List (List ℕ) → Type 0
IsNoCommand words = (command : Command) → ¬ IsCommand words command

-- the name of the grammar's file; `sample` names none, and has a grammar of its own
abbrev pub named_grammar : Command → Option (List ℕ)
named_grammar (canon g) = Some g
named_grammar (score g t) = Some g
named_grammar (generate g f b) = Some g
named_grammar (show g f b) = Some g
named_grammar (tableau g f r b) = Some g
named_grammar (once g f b) = Some g
named_grammar (comprehend g l s b) = Some g
named_grammar (check g a) = Some g
named_grammar (sample n) = None
