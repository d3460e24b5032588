use Rattle.std.proofs.Common.{List, ap, ◌∙◌}
use Rattle.tier_core.specs.declared.constraint.Constraint.{Constraint}
use Rattle.violation.specs.{Candidates.{vec}}
use Rattle.cert_check.proofs.{Heads.first_counts, Stops.stops_say}
use Rattle.grammar_reader.proofs.OverTiers.{all_countable}
use Rattle.cert_check.proofs.head.check_counts.Goals as goal

pub vector-requires-clause-countable : goal.vector-requires-clause-countable
vector-requires-clause-countable c =
    rw c.deref.ensures.value (all_countable c.args.grammar.now _ c.requires.example.well_formed)

pub returns-clause-err : goal.returns-clause-err
returns-clause-err c =
    let is = c.in_ok-counted.ensures ∙ ap (λ (cs : List Constraint). vec cs c.args.answer.now.example)
    c.deref.ensures.value in
    stops_say _ _ _ (first_counts _ _ c.requires.form c.requires.numbers c.requires.example _ is)
    (rw c.deref-2.ensures.value at (rw c.deref-3.ensures.value at c.compare_counts.ensures.err))
