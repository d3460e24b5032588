use Rattle.std.proofs.{Common.rules, lemmas.List.Sorted.answers_always}
use Rattle.answer_text.specs.declared.automaton.StateLine.{StateLine}
use Rattle.cert_check.proofs.NumberSearch.{told}
use Rattle.cert_check.proofs.find_state.has_state.Goals as goal

pub returns : goal.returns
returns c =
    let facts = c.binary_search_by_key.ensures in
    let by_key = facts.position (λ (state : StateLine). state.node)
    (answers_always _ _ _ (λ f a r g called. search rules)) in
    rw c.is_ok.ensures.value (told _ _ _ c.requires _ facts.bound by_key)
