use Rattle.std.proofs.{Common.{◌≡◌, get_or, sym, ap, ◌∙◌, arith}, lemmas.List.{get_or-map, length-map}}
use Rattle.first_paths.proofs.Results.{on_ok}
use Rattle.answer_text.specs.{declared.automaton.StateLine.StateLine, Right.numbers_of}
use Rattle.comprehend.proofs.Numbers.{numbered_more}
use Rattle.comprehend.proofs.numbering.node_numbers.Goals as goal

pub loop-state-preserved : goal.loop-state-preserved
loop-state-preserved c =
    let states = c.args.states.now in
    let numbers = numbers_of states in
    let i = c.loop-state.state-index in
    let state = c.state-item.result in
    let inside = c.loop-state-test.true in
    let here : get_or numbers i 0 ≡ state.node = get_or-map (λ (s : StateLine). s.node) states i state 0 inside
    ∙ ap (λ (s : StateLine). s.node) (sym c.state-item.is) in
    numbered_more numbers i state.node c.loop-state.numbers.keys c.insert.new.self.keys c.requires
    (omega (arith, inside, length-map states (λ (s : StateLine). s.node))) c.loop-state.invariant here
    (on_ok c.insert.result c.insert.ensures.keys (sym c.is_err.ensures.value ∙ c.if-is_err.false))
