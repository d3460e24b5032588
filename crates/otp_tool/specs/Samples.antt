-- Samples: the grammar that the program has of its own, the form that a number makes, and a summary of
-- what is found for it (this project).
use Rattle.std.specs.Prelude.{ℕ, zero, suc, ◌+◌, ◌*◌, ◌/◌, ◌%◌, ◌==◌, Bool, true, false, if◌then◌else◌, List, [], ◌∷◌, ◌++◌, codes, length, map}
use Rattle.std.specs.List.{flat_map, list_any}
use Rattle.std.specs.Fmt.{decimal}
use Rattle.answer_text.specs.declared.answer.Answer.{Answer}
use Rattle.answer_text.specs.declared.automaton.ArcLine.{ArcLine}
use Rattle.answer_text.specs.declared.automaton.StateLine.{StateLine}
use Rattle.answer_text.specs.Text.{line, lines_text, shown_text}

-- the lines of the grammar: syllables over consonants and vowels
abbrev pub sample_lines : List (List ℕ)
sample_lines = codes "otp 1"
    ∷ codes "tier C input" ∷ codes "tier V input" ∷ codes "tier c overt" ∷ codes "tier v overt"
    ∷ codes "tier S hidden"
    ∷ codes "letter t = C" ∷ codes "letter a = V"
    ∷ codes "constraint MaxCl [C -> [c" ∷ codes "constraint MaxCr ]C -> ]c"
    ∷ codes "constraint MaxVl [V -> [v" ∷ codes "constraint MaxVr ]V -> ]v"
    ∷ codes "constraint DepCl [c -> [C" ∷ codes "constraint DepCr ]c -> ]C"
    ∷ codes "constraint DepVl [v -> [V" ∷ codes "constraint DepVr ]v -> ]V"
    ∷ codes "constraint ParseC c -> S" ∷ codes "constraint ParseV v -> S"
    ∷ codes "constraint Onset [S -> [c" ∷ codes "constraint NoCoda ]S -> ]v"
    ∷ codes "constraint NoInner ]v # S" ∷ []

-- and its bytes
unfoldable pub sample_grammar : List ℕ
sample_grammar = lines_text sample_lines

-- the number that follows a number
abbrev pub next_number : ℕ → ℕ
next_number x = (1103515245 * x + 12345) % 2147483648

-- the letter of a number: `t` if the whole part of a 65,536th of it is even, and `a` otherwise
abbrev pub sample_letter : ℕ → ℕ
sample_letter x = if (x / 65536) % 2 == 0 then 116 else 97

-- the letters of the next numbers
abbrev pub letters_after : ℕ → ℕ → List ℕ
letters_after zero x = []
letters_after (suc n) x = sample_letter (next_number x) ∷ letters_after n (next_number x)

-- the word of the form that a number makes: so many letters after it
abbrev pub sample_word : ℕ → List ℕ
sample_word n = codes "=" ++ letters_after n n

-- whether an arc leads to a target
abbrev pub leads_to : ℕ → List ArcLine → Bool
leads_to target arcs = list_any (λ arc. arc.target == target) arcs

-- the targets of arcs, each once
abbrev pub targets_of : List ArcLine → List ℕ
targets_of [] = []
targets_of (arc ∷ arcs) = if leads_to arc.target arcs then targets_of arcs else arc.target ∷ targets_of arcs

-- the pairs of states with an arc from the one to the other, each once
abbrev pub pairs_of : List StateLine → List (ℕ × ℕ)
pairs_of states = flat_map (λ state. map (λ target. (state.node, target)) (targets_of state.arcs.items)) states

-- `Yes` if it was checked that the answer has no fault
abbrev pub yes_or_no : Bool → List ℕ
yes_or_no true = codes "Yes"
yes_or_no false = codes "No"

-- the form's word, the lines `counts` and `example` of an answer, how many states and pairs of states its
-- automaton has, and whether it was checked
abbrev pub sample_text : ℕ → Answer → Bool → List ℕ
sample_text n answer faultless =
    line (codes "form " ++ sample_word n)
    ++ (shown_text answer
    ++ (line (codes "states " ++ decimal (length answer.automaton.states.items))
    ++ (line (codes "pairs " ++ decimal (length (pairs_of answer.automaton.states.items)))
    ++ line (codes "check " ++ yes_or_no faultless))))
