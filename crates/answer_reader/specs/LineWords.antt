-- The words of a state's line, as the code has them.
use Rattle.std.specs.Prelude.{ℕ, Bool, List, []}
use Rattle.answer_reader.specs.Lines as said
use Rattle.answer_text.specs.Values.{ArcValue, StateValue}
use Rattle.answer_reader.specs.declared.line_forms.StateWords as code

abbrev pub state_words_seen : code.StateWords → said.StateWords
state_words_seen w = record { node = w.node.now; accepting = w.accepting }

-- a state without arcs
abbrev pub bare_state : ℕ × Bool → StateValue
bare_state state = record { node = state.0; accepting = state.1; arcs = [] }

abbrev pub with_arcs : ℕ × Bool → List ArcValue → StateValue
with_arcs state arcs = record { node = state.0; accepting = state.1; arcs = arcs }
