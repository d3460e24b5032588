-- The text of an answer, line by line.
use Rattle.std.specs.Prelude.{ℕ, ◌+◌, ◌==◌, Bool, true, false, if◌then◌else◌, List, [], ◌∷◌, ◌++◌, length, map, filter, codes, slice_index_or}
use Rattle.std.specs.List.{flat_map}
use Rattle.std.specs.Fmt.{decimal}
use Rattle.tier_core.specs.Symbols.{byte_of, symbols}
use Rattle.tier_core.specs.Sets.{is_in}
use Rattle.tier_core.specs.Classes.{sets_of}
use Rattle.tier_core.specs.Kinds.{Phase, closed, unmet, met, PrefixKind, prefix_kind}
use Rattle.answer_text.specs.declared.stage.Node.{Node}
use Rattle.answer_text.specs.declared.stage.Stage.{Stage}
use Rattle.answer_text.specs.declared.automaton.ArcLine.{ArcLine}
use Rattle.answer_text.specs.declared.automaton.StateLine.{StateLine}
use Rattle.answer_text.specs.declared.answer.Answer.{Answer}
use Rattle.timeline_text.specs.Texts.{text_of}

-- a number after a space
abbrev pub after_space : ℕ → List ℕ
after_space n = codes " " ++ decimal n

-- numbers, each after a space
abbrev pub spaced_numbers : List ℕ → List ℕ
spaced_numbers numbers = flat_map after_space numbers

-- a set of one symbol is the symbol, a set of more stands in braces
abbrev pub with_braces : List ℕ → List ℕ
with_braces bytes = if length bytes == 1 then bytes else codes "{" ++ bytes ++ codes "}"

-- the symbols of the set with this number, in their order
abbrev pub set_text : ℕ → List ℕ
set_text set = with_braces (map byte_of (filter (is_in set) symbols))

-- the sets of a class in tier order
abbrev pub class_text : List ℕ → List ℕ
class_text sets = flat_map set_text sets

-- `+` for an open tier, `-` for any other
abbrev pub open_byte : Bool → ℕ
open_byte true = 43
open_byte false = 45

-- `.` for closed, `u` for unmet, `m` for met
abbrev pub phase_byte : Phase → ℕ
phase_byte closed = 46
phase_byte unmet = 117
phase_byte met = 109

-- PLACE/OPEN/PHASES
abbrev pub kind_text : PrefixKind → List ℕ
kind_text k = decimal k.place ++ codes "/" ++ map open_byte k.opened ++ codes "/" ++ map phase_byte k.phases

-- What the lines take from the grammar: how many free tiers there are, and how many stretch
-- implications are among the first r constraints, for each r.
pub record Widths : Type 0 where
  pub free : ℕ
  pub stretches : List ℕ

abbrev pub node_line : ℕ → ℕ → Node → List ℕ
node_line free stretches node = codes "node " ++ kind_text (prefix_kind free stretches node.kind)
    ++ after_space node.potential

-- a stage says its number and how many nodes it has, and its nodes follow it
abbrev pub stage_lines : ℕ → ℕ → ℕ → List Node → List (List ℕ)
stage_lines free stretches r nodes = (codes "stage " ++ decimal r ++ after_space (length nodes)) ∷ map
    (node_line free stretches) nodes

-- the stages from number r on
abbrev pub stages_lines : Widths → ℕ → List Stage → List (List ℕ)
stages_lines widths r [] = []
stages_lines widths r (stage ∷ stages) =
    stage_lines widths.free (slice_index_or widths.stretches r 0) r stage.nodes.items
    ++ stages_lines widths (r + 1) stages

abbrev pub arc_line : ArcLine → List ℕ
arc_line arc = codes "arc " ++ decimal arc.target ++ codes " " ++ class_text (sets_of arc.class)

abbrev pub final_mark : Bool → List ℕ
final_mark true = codes " final"
final_mark false = []

-- a state says its number and whether it is final, and its arcs follow it
abbrev pub state_lines : StateLine → List (List ℕ)
state_lines state = (codes "state " ++ decimal state.node ++ final_mark state.accepting) ∷ map arc_line state.arcs.items

abbrev pub automaton_lines : List StateLine → List (List ℕ)
automaton_lines states = (codes "automaton " ++ decimal (length states)) ∷ flat_map state_lines states

abbrev pub counts_line : List ℕ → List ℕ
counts_line counts = codes "counts" ++ spaced_numbers counts

-- the lines before the stages
abbrev pub head_lines : Answer → List (List ℕ)
head_lines answer = codes "answer 1"
    ∷ (codes "form " ++ text_of answer.form)
    ∷ counts_line answer.counts.items
    ∷ (codes "example " ++ text_of answer.example) ∷ []

abbrev pub answer_lines : Widths → Answer → List (List ℕ)
answer_lines widths answer =
    head_lines answer
    ++ stages_lines widths 0 answer.stages.items
    ++ automaton_lines answer.automaton.states.items
    ++ codes "end" ∷ []

-- each line ends with a line feed
abbrev pub line : List ℕ → List ℕ
line bytes = bytes ++ 10 ∷ []

abbrev pub lines_text : List (List ℕ) → List ℕ
lines_text lines = flat_map line lines

-- the text of an answer
abbrev pub answer_text : Widths → Answer → List ℕ
answer_text widths answer = lines_text (answer_lines widths answer)

-- the line of the counts alone
abbrev pub counts_text : List ℕ → List ℕ
counts_text counts = lines_text (counts_line counts ∷ [])

-- the lines `counts` and `example` of an answer
abbrev pub shown_text : Answer → List ℕ
shown_text answer = lines_text (counts_line answer.counts.items ∷ (codes "example " ++ text_of answer.example) ∷ [])
