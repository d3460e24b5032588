use Rattle.std.proofs.Common.{◌++◌, ◌∷◌, [], ◌∙◌, ap}
use Rattle.answer_text.proofs.Examples.{IsTwoStates, constituent_is_accepted, empty_is_accepted}
use Rattle.answer_text.proofs.Examples.{start_alone_is_refused}
use Rattle.answer_text.proofs.tests.two_states.Goals as goal

pub returns : goal.returns
returns c =
    let two : IsTwoStates c.push-2.new.self.items c.in_ok-start.start c.in_ok-inside.inside
    c.arc-opens.result c.arc-closes.result c.arc-turns.result = record {
      listed = c.in_ok-push-2.ensures.items ∙ ap (λ xs. xs ++ c.in_ok-inside.inside ∷ [])
          (c.in_ok-push.ensures.items ∙ ap (λ xs. xs ++ c.in_ok-start.start ∷ []) c.new-states.ensures.items);
      start_node = c.in_ok-start.ensures.node;
      start_final = c.in_ok-start.ensures.accepting;
      start_arcs = c.in_ok-start.ensures.arcs;
      inside_node = c.in_ok-inside.ensures.node;
      inside_final = c.in_ok-inside.ensures.accepting;
      inside_arcs = c.in_ok-inside.ensures.arcs;
      opens_to = c.arc-opens.ensures.target;
      opens_on = c.arc-opens.ensures.class;
      closes_to = c.arc-closes.ensures.target;
      closes_on = c.arc-closes.ensures.class;
      turns_to = c.arc-turns.ensures.target;
      turns_on = c.arc-turns.ensures.class;
    } in record {
      empty = empty_is_accepted two;
      one = constituent_is_accepted two;
      «open» = start_alone_is_refused two;
    }
