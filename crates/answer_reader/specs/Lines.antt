-- What a line says, regardless of the lines before it.
use Rattle.std.specs.Prelude.{ℕ, ◌+◌, ◌==◌, ◌&&◌, Bool, true, false, if◌then◌else◌, List, [], length, codes, Option, Some, None, option_map, option_and_then, Result, Ok, Err}
use Rattle.std.specs.List.{list_all, slice_split}
use Rattle.std.specs.Option.{ok_or}
use Rattle.std.specs.Str.{bytes_eq}
use Rattle.answer_reader.specs.declared.answer_err.AnswerCause.{AnswerCause}
use Rattle.answer_reader.specs.declared.answer_err.AnswerCause.TheVariants.{BadHeader, BadLine, BadNumber, BadClass}
use Rattle.answer_reader.specs.Numbers.{is_run, number_below, numbers_below}
use Rattle.timeline_text.specs.Bytes.{is_space}
use Rattle.answer_reader.specs.Cuts.{cut, behind}
use Rattle.answer_reader.specs.Classes.{class_of}
use Rattle.answer_text.specs.Values.{ArcValue, StateValue}

-- `answer 1`
abbrev pub header_of : List ℕ → Result (Unit {0}) AnswerCause
header_of line = if bytes_eq line (codes "answer 1") then Ok tt else Err BadHeader

-- `counts N N ..`: the words after `counts`
abbrev pub counts_words : List ℕ → Option (List (List ℕ))
counts_words line = if bytes_eq line (codes "counts") then Some [] else option_map (slice_split is_space)
    (behind (codes "counts ") line)

abbrev pub counts_said : ℕ → Option (List (List ℕ)) → Result (List ℕ) AnswerCause
counts_said constraints None = Err BadLine
counts_said constraints (Some runs) =
    if (length runs == constraints) && list_all is_run runs then ok_or (numbers_below 1000000001 runs) BadNumber else
    Err BadLine

-- one number for each constraint
abbrev pub counts_of : ℕ → List ℕ → Result (List ℕ) AnswerCause
counts_of constraints line = counts_said constraints (counts_words line)

-- a number in its range, or BadNumber; BadLine if the word is not a run of digits
abbrev pub number_said : ℕ → Option (List ℕ) → Result ℕ AnswerCause
number_said bound None = Err BadLine
number_said bound (Some word) = if is_run word then ok_or (number_below bound word) BadNumber else Err BadLine

-- `stage NUMBER NODES`
abbrev pub stage_words : List ℕ → Option (List ℕ × List ℕ)
stage_words line = option_and_then (cut 32) (behind (codes "stage ") line)

abbrev pub is_number : ℕ → Option ℕ → Bool
is_number n None = false
is_number n (Some m) = m == n

abbrev pub stage_said : ℕ → ℕ → Option (List ℕ × List ℕ) → Result ℕ AnswerCause
stage_said stages next None = Err BadLine
stage_said stages next (Some w) = if is_run w.0 && is_run w.1
    then (if is_number next (number_below stages w.0) then ok_or (number_below 65537 w.1) BadNumber else Err BadNumber)
    else Err BadLine

-- the number of its nodes, if the stage is the next
abbrev pub stage_of : ℕ → ℕ → List ℕ → Result ℕ AnswerCause
stage_of stages next line = stage_said stages next (stage_words line)

-- `automaton STATES`: at most as many states as the last stage has nodes
abbrev pub automaton_of : ℕ → List ℕ → Result ℕ AnswerCause
automaton_of nodes line = number_said (nodes + 1) (behind (codes "automaton ") line)

-- a state's number, and whether ` final` follows it
pub record StateWords : Type 0 where
  pub node : List ℕ
  pub accepting : Bool

abbrev pub final_words : List ℕ → Option (List ℕ × List ℕ) → Option StateWords
final_words rest None = Some (record { node = rest; accepting = false })
final_words rest (Some parts) = if bytes_eq parts.1 (codes "final") then Some
    (record { node = parts.0; accepting = true }) else None

-- `state NODE` or `state NODE final`
abbrev pub state_words : List ℕ → Option StateWords
state_words line = option_and_then (λ rest. final_words rest (cut 32 rest)) (behind (codes "state ") line)

abbrev pub state_with : StateWords → ℕ → StateValue
state_with w node = record { node = node; accepting = w.accepting; arcs = [] }

abbrev pub state_said : ℕ → Option StateWords → Result StateValue AnswerCause
state_said nodes None = Err BadLine
state_said nodes (Some w) = if is_run w.node then ok_or (option_map (state_with w) (number_below nodes w.node))
    BadNumber else Err BadLine

-- a state that is a node of the last stage
abbrev pub state_of : ℕ → List ℕ → Result StateValue AnswerCause
state_of nodes line = state_said nodes (state_words line)

-- `arc TARGET CLASS`: the class is all that follows the space
abbrev pub arc_words : List ℕ → Option (List ℕ × List ℕ)
arc_words line = option_and_then (cut 32) (behind (codes "arc ") line)

abbrev pub arc_with : ℕ → ℕ → List ℕ → Result ArcValue AnswerCause
arc_with width target text = ok_or
    (option_map (λ sets. record { target = target; sets = sets }) (class_of width text)) BadClass

abbrev pub arc_if_target : ℕ → Option ℕ → List ℕ → Result ArcValue AnswerCause
arc_if_target width None text = Err BadNumber
arc_if_target width (Some target) text = arc_with width target text

abbrev pub arc_said : ℕ → ℕ → Option (List ℕ × List ℕ) → Result ArcValue AnswerCause
arc_said width nodes None = Err BadLine
arc_said width nodes (Some w) = if is_run w.0 then arc_if_target width (number_below nodes w.0) w.1 else Err BadLine

-- to a node of the last stage, with a class of the grammar's width
abbrev pub arc_of : ℕ → ℕ → List ℕ → Result ArcValue AnswerCause
arc_of width nodes line = arc_said width nodes (arc_words line)

-- `end`
abbrev pub end_line : List ℕ → Result (Unit {0}) AnswerCause
end_line line = if bytes_eq line (codes "end") then Ok tt else Err BadLine
