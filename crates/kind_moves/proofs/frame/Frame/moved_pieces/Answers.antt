use Rattle.std.proofs.Common.{List, take, filter, length, sym, ◌∙◌, subst}
use Rattle.tier_core.specs.{declared.constraint.Constraint.Constraint, Kinds.phases, Sides.is_stretch}
use Rattle.symbol_class.specs.{Held.ArePieces, Parts.ArePartedBy}
use Rattle.violation.specs.Moves.{next_phases, next_kind}
use Rattle.kind_moves.specs.{Frames.{problem_in, tiers_in, kind_at_stage}, Pieces.opened_by}
use Rattle.kind_moves.proofs.PieceSteps.{fitting_parts, parted_moves, first_over}
use Rattle.kind_moves.proofs.frame.Frame.moved_pieces.Goals.{In_ok-pieces}
use Rattle.kind_moves.proofs.frame.Frame.moved_pieces.Goals as goal

pub parts_by_open-requires-clause-pieces : goal.parts_by_open-requires-clause-pieces
parts_by_open-requires-clause-pieces c =
    subst (λ n. ArePieces n c.in_ok-fitting.fitting.items) (sym (c.width-width.ensures.value ∙ c.requires.width))
    (c.in_ok-fitting.ensures.fitting c.args.stage).pieces

pub parts_by_phases-requires-clause-over : goal.parts_by_phases-requires-clause-over
parts_by_phases-requires-clause-over c =
    first_over c.args.self.now c.args.stage c.width-width.result c.as_slice.result.now c.as_slice.ensures.value
    (c.width-width.ensures.value ∙ c.requires.width)

parted : (c : In_ok-pieces) → ArePartedBy (tiers_in c.args.self.now).width
    (next_kind (problem_in c.args.self.now) c.args.stage (kind_at_stage c.args.self.now c.args.stage c.args.kind.now))
    c.in_ok-fitting.fitting.items c.in_ok-pieces.pieces.items
parted c =
    let frame = c.args.self.now in
    let kind = c.args.kind.now in
    let wide = c.width-width.ensures.value ∙ c.requires.width in
    parted_moves frame c.args.stage kind c.in_ok-fitting.fitting.items c.in_ok-opened.opened.items
    c.in_ok-pieces.pieces.items
    (c.in_ok-fitting.ensures.fitting c.args.stage).pieces c.in_ok-fitting.ensures.read
    (subst (λ n. ArePartedBy n (opened_by n) c.in_ok-fitting.fitting.items c.in_ok-opened.opened.items) wide
    c.in_ok-opened.ensures)
    (subst (λ (xs : List Constraint). ArePartedBy (tiers_in frame).width
    (next_phases (filter is_stretch (take c.args.stage xs))
    (phases (length (filter is_stretch (take c.args.stage xs))) kind)) c.in_ok-opened.opened.items
    c.in_ok-pieces.pieces.items) c.as_slice.ensures.value
    (subst (λ n. ArePartedBy n (next_phases (filter is_stretch (take c.args.stage c.as_slice.result.now))
    (phases (length (filter is_stretch (take c.args.stage c.as_slice.result.now))) kind))
    c.in_ok-opened.opened.items c.in_ok-pieces.pieces.items) wide c.in_ok-pieces.ensures))

pub returns-clause-fitting : goal.returns-clause-fitting
returns-clause-fitting c =
    fitting_parts c.args.self.now c.args.stage c.args.kind.now c.args.class.now
    (next_kind (problem_in c.args.self.now) c.args.stage (kind_at_stage c.args.self.now c.args.stage c.args.kind.now))
    c.in_ok-fitting.fitting.items c.in_ok-pieces.pieces.items
    (c.in_ok-fitting.ensures.fitting c.args.stage) (parted c)

pub returns-clause-moved : goal.returns-clause-moved
returns-clause-moved c = (parted c).alike
