use Rattle.answer_text.specs.RightOnce.{bare_nodes}
use Rattle.ranked_gen.proofs.once.once_answer.Goals as goal

pub ending_of-requires : goal.ending_of-requires
ending_of-requires c = record { part = (bare_nodes c.in_ok-nodes.field-0.nodes.items, c.in_ok-nodes.ensures.part) }

pub returns-clause-right : goal.returns-clause-right
returns-clause-right c =
    let once = c.in_ok-nodes.ensures in
    record {
      form = c.in_ok-form.ensures;
      counts = once.least;
      example = c.in_ok-example.ensures.example;
      kinds = once.kinds;
      potentials = once.potentials;
      automaton = c.in_ok-example.ensures.automaton (bare_nodes c.in_ok-nodes.field-0.nodes.items) once.part;
    }

pub returns-clause-fitting : goal.returns-clause-fitting
returns-clause-fitting c = c.in_ok-nodes.ensures.fit
