-- The line of a node: `node PLACE/OPEN/PHASES POTENTIAL`.
use Rattle.std.specs.Prelude.{ℕ, ◌+◌, ◌==◌, ◌&&◌, ◌||◌, Bool, if◌then◌else◌, List, length, map, codes, Option, Some, None, option_map, option_and_then, Result, Err}
use Rattle.std.specs.List.{list_all}
use Rattle.std.specs.Option.{ok_or}
use Rattle.tier_core.specs.Kinds.{Phase, closed, unmet, met}
use Rattle.answer_reader.specs.declared.answer_err.AnswerCause.{AnswerCause}
use Rattle.answer_reader.specs.declared.answer_err.AnswerCause.TheVariants.{BadLine, BadNumber}
use Rattle.answer_reader.specs.Numbers.{is_run, number_below}
use Rattle.answer_reader.specs.Cuts.{cut, behind}
use Rattle.answer_text.specs.Values.{NodeValue}

-- `+` or `-`
abbrev pub is_open_byte : ℕ → Bool
is_open_byte b = (b == 43) || (b == 45)

-- `.`, `u` or `m`
abbrev pub is_phase_byte : ℕ → Bool
is_phase_byte b = (b == 46) || (b == 117) || (b == 109)

-- `u` for unmet, `m` for met, `.` for closed
abbrev pub phase_of_byte : ℕ → Phase
phase_of_byte b = if b == 109 then met else if b == 117 then unmet else closed

-- this many bytes, each of which passes
abbrev pub are_each : (ℕ → Bool) → ℕ → List ℕ → Bool
are_each test n bytes = (length bytes == n) && list_all test bytes

pub record NodeWords : Type 0 where
  pub place : List ℕ
  pub opened : List ℕ
  pub phases : List ℕ
  pub potential : List ℕ

abbrev pub with_potential : List ℕ → List ℕ → List ℕ × List ℕ → NodeWords
with_potential place opened parts = record { place = place; opened = opened; phases = parts.0; potential = parts.1 }

-- PLACE and OPEN end at the first slashes, PHASES at the first space after them
abbrev pub node_words : List ℕ → Option NodeWords
node_words line = option_and_then
    (λ kind. option_and_then (λ p. option_and_then (λ q. option_map (with_potential p.0 q.0) (cut 32 q.1))
    (cut 47 p.1)) (cut 47 kind))
    (behind (codes "node ") line)

-- runs of digits, and OPEN and PHASES of the grammar's widths
abbrev pub are_node_words : ℕ → ℕ → NodeWords → Bool
are_node_words free stretches w = is_run w.place && are_each is_open_byte free w.opened && are_each is_phase_byte
    stretches w.phases && is_run w.potential

abbrev pub node_by : NodeWords → ℕ → ℕ → NodeValue
node_by w place potential = record {
  kind = record { place = place; opened = map (λ b. b == 43) w.opened; phases = map phase_of_byte w.phases };
  potential = potential;
}

-- PLACE is at most the form's number of columns
abbrev pub node_with : ℕ → NodeWords → Option NodeValue
node_with columns w = option_and_then (λ place. option_map (node_by w place) (number_below 1000000001 w.potential))
    (number_below (columns + 1) w.place)

abbrev pub node_said : ℕ → ℕ → ℕ → Option NodeWords → Result NodeValue AnswerCause
node_said free stretches columns None = Err BadLine
node_said free stretches columns (Some w) = if are_node_words free stretches w then ok_or (node_with columns w)
    BadNumber else Err BadLine

abbrev pub node_of : ℕ → ℕ → ℕ → List ℕ → Result NodeValue AnswerCause
node_of free stretches columns line = node_said free stretches columns (node_words line)
