-- What is known of a state that is looked at.
use Rattle.std.proofs.Common.{◌≡◌, ◌^◌, ◌<◌, length, ◌∙◌, subst, arith, All, refl}
use Rattle.std.proofs.{lemmas.List.Elements.All-contains, lemmas.Option.{slice_get_within, get_or_from_slice_get}}
use Rattle.std.specs.{List.Sorted.IsStrictlySortedBy, Ordering.nat_cmp}
use Rattle.tier_core.specs.{Classes.sets_of, KindShapes.FitsShape}
use Rattle.violation.specs.Problems.{last_stage}
use Rattle.answer_text.specs.{declared.automaton.ArcLine.ArcLine, declared.automaton.StateLine.StateLine}
use Rattle.answer_text.specs.{declared.stage.Node.Node, Readable.{IsReadableState, last_nodes}}
use Rattle.answer_text.specs.Right.{numbers_of, IsNodeOf}
use Rattle.cert_check.specs.{declared.subject.Subject.Subject, States.{IsRightBeforeStates, IsStateAt, last_kind}}
use Rattle.cert_check.specs.Subjects.{problem_of, stage_nodes}
use Rattle.cert_check.proofs.Subjects.{free_same, fits_at}

module _ (s : Subject) (staged : IsRightBeforeStates s) where
  -- the states ascend
  pub states_ascend : IsStrictlySortedBy nat_cmp (numbers_of s.answer.now.automaton.states.items)
  states_ascend = staged.ready.readable.states.ascending

  module _ (state : StateLine) (node : Node) (at : IsStateAt s state node) where
    -- its arcs have one width
    pub arcs_wide : All (λ (arc : ArcLine). length (sets_of arc.class) ≡ (problem_of s).tiers.width) state.arcs.items
    arcs_wide k d l =
        let each = All-contains (λ (x : StateLine). IsReadableState s.shape.now.width
        (length (last_nodes s.answer.now.stages.items)) x) s.answer.now.automaton.states.items state
        staged.ready.readable.states.each at.listed in
        (each.arcs k d l).wide ∙ staged.ready.of_grammar.width

    -- it has the kind of its node
    pub of_kind : IsNodeOf (problem_of s) (stage_nodes s (last_stage (problem_of s))) state.node (last_kind s node)
    of_kind = record { node = node; numbered = at.is.numbered; tells = refl }

    pub node_fits : FitsShape s.shape.now (last_stage (problem_of s)) node.kind
    node_fits =
        let nodes = stage_nodes s (last_stage (problem_of s)) in
        subst (λ (x : Node). FitsShape s.shape.now (last_stage (problem_of s)) x.kind)
        (get_or_from_slice_get nodes state.node node node at.is.numbered)
        (fits_at s staged.ready _ (omega arith) _ _ (slice_get_within nodes state.node node at.is.numbered))

    pub opened_few : node.kind.opened < 2 ^ length (problem_of s).tiers.free
    opened_few = rw (free_same s staged.ready (last_stage (problem_of s)) (omega arith)) at node_fits.opened
