-- A right answer has no more states than the last stage has kinds.
use Rattle.std.proofs.{Common.{ℕ, ◌<◌, ◌≤◌, length, get_or, arith}, lemmas.Map.Views.length-le_from_below}
use Rattle.std.proofs.{lemmas.Option.slice_get_within, lemmas.List.length-map, lemmas.List.Elements.Contains-get_or}
use Rattle.std.specs.Prelude.{All}
use Rattle.violation.specs.{Problems.{Problem, last_stage}, Prefixes.kind_of_bits}
use Rattle.answer_text.specs.{declared.stage.Node.Node, declared.automaton.StateLine.StateLine}
use Rattle.answer_text.specs.{declared.answer.Answer.Answer, Right.{nodes_at, kinds_at, numbers_of, IsRight}}
use Rattle.ranked_gen.specs.Budgets.{AreAllWithin}

pub few_states : (problem : Problem) (answer : Answer) (budget : ℕ) → IsRight problem answer
    → AreAllWithin problem budget → length answer.automaton.states.items ≤ budget
few_states problem answer budget right within =
    let last = last_stage problem in
    let nodes = nodes_at answer.stages.items last in
    let states = answer.automaton.states.items in
    let numbers = numbers_of states in
    let below : All (λ n. n < length nodes) numbers = λ k d l.
    (let own = right.automaton.passed (get_or numbers k d)
    (Contains-get_or numbers k d l) in slice_get_within nodes
    (get_or numbers k d) own.1.0.node own.1.0.numbered) in
    let kinds : length (kinds_at problem last nodes) ≤ budget = within last (omega arith)
    (kinds_at problem last nodes) (right.each_stage last (omega arith)).kinds in
    omega (
      arith,
      length-le_from_below (length nodes) numbers right.automaton.ascending below,
      kinds,
      length-map states (λ (s : StateLine). s.node),
      length-map nodes (λ (n : Node). kind_of_bits problem last n.kind),
    )
