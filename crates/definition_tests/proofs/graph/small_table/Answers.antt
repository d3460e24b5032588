use Rattle.definition_tests.proofs.FitStates.{fit_targets, fit_disjoint, fit_filled, fit_width, fit_sizes}
use Rattle.definition_tests.proofs.graph.small_table.Goals as goal

pub of_states-requires-clause-targets : goal.of_states-requires-clause-targets
of_states-requires-clause-targets c = rw (← c.deref.ensures.value)
    (fit_targets c.deref.result.now (c.are_fit.ensures c.if-not-are_fit.false))

pub of_states-requires-clause-disjoint : goal.of_states-requires-clause-disjoint
of_states-requires-clause-disjoint c = rw (← c.deref.ensures.value)
    (fit_disjoint c.deref.result.now (c.are_fit.ensures c.if-not-are_fit.false))

pub of_states-requires-clause-filled : goal.of_states-requires-clause-filled
of_states-requires-clause-filled c = rw (← c.deref.ensures.value)
    (fit_filled c.deref.result.now (c.are_fit.ensures c.if-not-are_fit.false))

pub of_states-requires-clause-one_width : goal.of_states-requires-clause-one_width
of_states-requires-clause-one_width c = rw (← c.deref.ensures.value)
    (fit_width c.deref.result.now (c.are_fit.ensures c.if-not-are_fit.false))

pub returns : goal.returns
returns c = rw (c.of_states.ensures, ← c.deref.ensures.value)
    (fit_sizes c.deref.result.now (c.are_fit.ensures c.if-not-are_fit.false))
